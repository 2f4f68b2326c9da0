-- Trusted: what one statement sends, prints on the screen and changes, and where it stops.
use Rattle.std.specs.Prelude.{ℕ, ◌+◌, nat_lt, nat_le, Bool, true, false, not, ◌||◌, Option, Some, None, is_some, List, [], ◌∷◌, ◌++◌, map, if◌then◌else◌}
use Rattle.std.specs.List.{last_or}
use Rattle.pr_base.specs.Bytes as command
use Rattle.pr_serial.specs.declared.Present.{Present}
use Rattle.pr_serial.specs.declared.Item.{Item}
use Rattle.pr_serial.specs.declared.Item.TheVariants as item
use Rattle.pr_serial.specs.Elements.{Element, Attention, Byte}
use Rattle.pr_serial.specs.Items.{items_of}
use Rattle.pr_serial.specs.Answers.{is_answered, is_lacking}
use Rattle.pr_channels.specs.declared.file.File.{File}
use Rattle.pr_channels.specs.declared.faults.Stop.{Stop}
use Rattle.pr_channels.specs.declared.faults.Stop.TheVariants.{FileNotOpen, DeviceNotPresent}
use Rattle.pr_channels.specs.Files.{Files, file_at, without_file, open_stop}
use Rattle.pr_channels.specs.Commands.{second_from, listen_to, unlisten, closing}
use Rattle.pr_basic.specs.Text.{Text}
use Rattle.pr_basic.specs.declared.session.StatusMode.{StatusMode}
use Rattle.pr_basic.specs.declared.session.StatusMode.TheVariants.{Each, Kept}
use Rattle.pr_basic.specs.declared.statement.Statement.{Statement}
use Rattle.pr_basic.specs.declared.statement.Statement.TheVariants.{OpenFile, Cmd, PrintTo, Print, CloseFile, Rem}

-- what a line prints under a channel number: its bytes; if it ends, a return; and from channel 128
-- on a line feed after the return
abbrev pub printed_bytes : Text → ℕ → List ℕ
printed_bytes line channel =
    line.bytes ++ (if line.ends then 13 ∷ (if nat_le 128 channel then 10 ∷ [] else []) else [])

-- what a statement finds: the open files, the channel number and the output device
pub record Setting : Type 0 where
  pub files : Files
  pub channel : ℕ
  pub output : ℕ

-- before the first statement: no file is open, the channel number is 0, and the screen is the
-- output device
abbrev pub at_first : Setting
at_first = record { files = []; channel = 0; output = 3 }

-- the channel number is 0 and the screen is the output device; the open files stay open
abbrev pub reset : Setting → Setting
reset at = record at { channel = 0; output = 3 }

-- the effect of a statement: its elements, its screen bytes, its stop if it stops, and what the next statement finds
pub record Effect : Type 0 where
  pub elements : List Element
  pub screen : List ℕ
  pub stop : Option Stop
  pub after : Setting

-- no stop: these elements, these screen bytes, and what the next statement finds
abbrev pub going_on : List Element → List ℕ → Setting → Effect
going_on es screen after = record { elements = es; screen = screen; stop = None; after = after }

-- a stop: after these elements comes UNLISTEN, if the output device is on the bus
abbrev pub stopping : Stop → List Element → Setting → Effect
stopping stop es at =
    let last = if nat_lt 3 at.output then unlisten ∷ [] else [] in
    record { elements = es ++ last; screen = []; stop = Some stop; after = reset at }

-- the last element, if there is one, is a byte that is not answered after the items before it
abbrev pub is_unanswered_byte : Present → List Item → Option Element → Bool
is_unanswered_byte present sent None = false
is_unanswered_byte present sent (Some (Attention first second)) = false
is_unanswered_byte present sent (Some (Byte b)) = not (is_answered present sent (item.Sent b true))

-- a file's device is missing: the LISTEN to it after these elements is not answered, or the element directly before it
-- is a byte that is not; where the status is kept: the LISTEN, or any item before it in the run, is not answered
abbrev pub is_missing : StatusMode → Present → List Element → File → Bool
is_missing Each present before file =
    not (is_answered present (items_of before)
    (item.Attention (command.listen + file.device) (second_from command.secondary file.second)))
    || is_unanswered_byte present (items_of before) (last_or None before)
is_missing Kept present before file = is_lacking present 0 (items_of (before ++ listen_to file ∷ []))

-- CMD: LISTEN to the file's device and then the line, unless that device is missing
abbrev pub commanding : (File → Bool) → Setting → ℕ → Text → Option File → Effect
commanding missing at number line None = stopping FileNotOpen [] at
commanding missing at number line (Some file) =
    if missing file
    then stopping DeviceNotPresent (listen_to file ∷ []) at
    else going_on (listen_to file ∷ map Byte (printed_bytes line number)) []
    (record at { channel = number; output = file.device })

-- UNLISTEN after an effect that is no stop; then the channel number is 0 and the screen is the output device
abbrev pub unlistening : Effect → Effect
unlistening e =
    if is_some e.stop then e
    else record e { elements = e.elements ++ unlisten ∷ []; after = reset e.after }

-- OPEN: nothing is sent
abbrev pub opening : Option Stop → File → Setting → Effect
opening None file at = going_on [] [] (record at { files = at.files ++ file ∷ [] })
opening (Some stop) file at = stopping stop [] at

-- the effect of a statement, by which files have a missing device
abbrev pub effect_of : (File → Bool) → Setting → Statement → Effect
effect_of missing at (OpenFile file device second) =
    let opened : File = record { number = file; device = device; second = second } in
    opening (open_stop at.files file) opened at
effect_of missing at (Cmd file line) = commanding missing at file line (file_at at.files file)
effect_of missing at (PrintTo file line) = unlistening (commanding missing at file line (file_at at.files file))
effect_of missing at (Print line) =
    let bytes = printed_bytes line at.channel in
    if nat_lt 3 at.output then going_on (map Byte bytes) [] at else going_on [] bytes at
effect_of missing at (CloseFile file) =
    going_on (closing (file_at at.files file)) [] (record at { files = without_file file at.files })
effect_of missing at Rem = going_on [] [] at
