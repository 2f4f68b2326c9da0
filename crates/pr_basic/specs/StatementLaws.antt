-- Laws: what follows from the definitions, in the manuals' words. The functions of src/laws.rt prove them, and callers take them from
-- there.
use Rattle.std.specs.Prelude.{◌≡◌, ℕ, Bool, Option, Some, None, List, ◌++◌, length, drop, if◌then◌else◌}
use Rattle.pr_serial.specs.declared.Present.{Present}
use Rattle.pr_serial.specs.declared.Item.{Item}
use Rattle.pr_serial.specs.Elements.{Element}
use Rattle.pr_serial.specs.Items.{items_of}
use Rattle.pr_serial.specs.Answers.{is_lacking}
use Rattle.pr_channels.specs.declared.file.File.{File}
use Rattle.pr_channels.specs.declared.faults.Stop.{Stop}
use Rattle.pr_channels.specs.declared.faults.Stop.TheVariants.{FileNotOpen, DeviceNotPresent}
use Rattle.pr_channels.specs.Files.{file_at, open_stop}
use Rattle.pr_basic.specs.declared.statement.Statement.{Statement}
use Rattle.pr_basic.specs.declared.statement.Statement.TheVariants.{OpenFile, Cmd, PrintTo, Print, CloseFile, Rem}
use Rattle.pr_basic.specs.declared.session.StatusMode.{StatusMode}
use Rattle.pr_basic.specs.declared.session.StatusMode.TheVariants.{Each, Kept}
use Rattle.pr_basic.specs.Statements.{Setting, is_missing, effect_of}
use Rattle.pr_basic.specs.Performing.{found_by, seems_missing}
use Rattle.pr_basic.specs.Runs.{found_of, status_of}

-- the items sent in a statement: those after the items sent before it
abbrev pub sent_in : List Element → List Element → List Item
sent_in before all = drop (length (items_of before)) (items_of all)

-- CMD and PRINT# stop where the file is not open, and where its device is missing
abbrev pub command_stop : StatusMode → Present → List Element → Option File → Option Stop
command_stop mode present before None = Some FileNotOpen
command_stop mode present before (Some file) =
    if is_missing mode present before file then Some DeviceNotPresent else None

-- the stop of a statement: of OPEN by the file table, of CMD and PRINT# by the file and its device;
-- no other statement stops. It is said for both modes and of each statement, so that "exactly
-- where" needs no law for the other direction
abbrev pub stop_in : StatusMode → Present → List Element → Setting → Statement → Option Stop
stop_in mode present before at (OpenFile file device second) = open_stop at.files file
stop_in mode present before at (Cmd file line) = command_stop mode present before (file_at at.files file)
stop_in mode present before at (PrintTo file line) = command_stop mode present before (file_at at.files file)
stop_in mode present before at (Print line) = None
stop_in mode present before at (CloseFile file) = None
stop_in mode present before at Rem = None

-- an item sent in a statement is not answered; where the status is kept: an item sent in it or before it
abbrev pub is_unanswered_in : StatusMode → Present → List Element → List Element → Bool
is_unanswered_in Each present before all = is_lacking present (length (items_of before)) (items_of all)
is_unanswered_in Kept present before all = is_lacking present 0 (items_of all)

-- a statement stops with DEVICE NOT PRESENT exactly where its file's device is missing, and else as the file table says
abbrev pub StopsExactly : Type 0
StopsExactly = (mode : StatusMode) (present : Present) (before : List Element) (at : Setting) (statement : Statement) →
    (effect_of (is_missing mode present before) at statement).stop ≡ stop_in mode present before at statement

-- in a run a device is missing exactly where the status is 128 after LISTEN to it
abbrev pub MissingByStatus : Type 0
MissingByStatus = (mode : StatusMode) (present : Present) (before : List Element) (file : File) →
    seems_missing present (found_of mode present before) before file ≡ is_missing mode present before file

-- so a statement gives the same by that test
abbrev pub EffectsByStatus : Type 0
EffectsByStatus =
    (mode : StatusMode) (present : Present) (before : List Element) (at : Setting) (statement : Statement) →
    effect_of (seems_missing present (found_of mode present before) before) at statement
    ≡ effect_of (is_missing mode present before) at statement

-- the status of a statement is 128 exactly where such an item is not answered, else 0
abbrev pub StatusExactly : Type 0
StatusExactly = (mode : StatusMode) (present : Present) (before es : List Element) →
    status_of present (found_of mode present before) before (before ++ es)
    ≡ (if is_unanswered_in mode present before (before ++ es) then 128 else 0)

-- the next statement finds the status that this one leaves, or 0
abbrev pub StatusFoundNext : Type 0
StatusFoundNext =
    (mode : StatusMode) (present : Present) (found : ℕ) (before es : List Element) → found
    ≡ found_of mode present before →
    found_by mode (status_of present found before (before ++ es)) ≡ found_of mode present (before ++ es)

-- a statement sends its items after those sent before it
abbrev pub SentAfterEarlier : Type 0
SentAfterEarlier =
    (before es : List Element) → items_of (before ++ es) ≡ items_of before ++ sent_in before (before ++ es)
