-- A file's device is missing exactly if the LISTEN is not answered, or the byte directly before it is not; where the status is kept, if the LISTEN or an item before it is not.
use Rattle.std.proofs.Common.{◌≡◌, ℕ, ◌+◌, Bool, true, false, not, cond, ◌||◌, ◌==◌, nat_lt, Option, Some, None, is_some, option_map, List, [], ◌∷◌, ◌++◌, length, map, refl, ap, ◌∙◌}
use Rattle.std.specs.List.{list_any, last_or}
use Rattle.pr_serial.specs.declared.Present.{Present}
use Rattle.pr_serial.specs.declared.Item.{Item}
use Rattle.pr_serial.specs.declared.Item.TheVariants as item
use Rattle.pr_serial.specs.Elements.{Element, Attention, Byte}
use Rattle.pr_serial.specs.Items.{items_of}
use Rattle.pr_serial.specs.Answers.{is_answered, is_lacking}
use Rattle.pr_serial.specs.Steps.{flushed, answers_after, held_of}
use Rattle.pr_serial.specs.Laws.{ItemsOfOneMore, ItemsOnlyGrow, LackingAmongLater, LackingInTwoParts}
use Rattle.pr_channels.specs.declared.file.File.{File}
use Rattle.pr_channels.specs.declared.faults.Stop.{Stop}
use Rattle.pr_channels.specs.declared.faults.Stop.TheVariants.{DeviceNotPresent}
use Rattle.pr_channels.specs.Files.{file_at, open_stop}
use Rattle.pr_channels.specs.Commands.{listen_to, second_from, unlisten}
use Rattle.pr_basic.specs.Text.{Text}
use Rattle.pr_basic.specs.declared.statement.Statement.{Statement}
use Rattle.pr_basic.specs.declared.statement.Statement.TheVariants.{OpenFile, Cmd, PrintTo, Print, CloseFile, Rem}
use Rattle.pr_basic.specs.declared.session.StatusMode.{StatusMode}
use Rattle.pr_basic.specs.declared.session.StatusMode.TheVariants.{Each, Kept}
use Rattle.pr_basic.specs.Statements.{Setting, Effect, printed_bytes, stopping, is_unanswered_byte, is_missing, commanding, opening, effect_of}
use Rattle.pr_basic.specs.Runs.{found_of, status_of}
use Rattle.pr_basic.specs.Performing.{seems_missing}
use Rattle.pr_basic.specs.StatementLaws.{EffectsByStatus, MissingByStatus, StopsExactly, command_stop, stop_in}
use Rattle.pr_basic.proofs.KeptLaw.{kept_status}

-- a status is 128 exactly where it was made so
status_test : (b : Bool) → (cond b 128 0 == 128) ≡ b
status_test true = refl
status_test false = refl

-- two tests and none after them, in the other order
swapped : (a b : Bool) → (a || (b || false)) ≡ (b || a)
swapped true true = refl
swapped true false = refl
swapped false true = refl
swapped false false = refl

-- the byte that waits is the last element
waiting : (present : Present) (sent : List Item) (before : List Element) → is_unanswered_byte present sent (option_map Byte (held_of before)) ≡ is_unanswered_byte present sent (last_or None before)
waiting present sent [] = refl
waiting present sent (Attention first second ∷ []) = refl
waiting present sent (Byte b ∷ []) = refl
waiting present sent (e ∷ next ∷ rest) = waiting present sent (next ∷ rest)

-- what lacks an answer of the byte that waits and the attention after it
lacking_at : (present : Present) (xs : List Item) (waits : Option ℕ) (first : ℕ) (second : Option ℕ)
    → list_any not (answers_after present xs (flushed waits (Attention first second) ++ item.Attention first second ∷ [])) ≡ (not (is_answered present xs (item.Attention first second)) || is_unanswered_byte present xs (option_map Byte waits))
lacking_at present xs None first second = refl
lacking_at present xs (Some b) first second = swapped (not (is_answered present xs (item.Sent b true))) (not (is_answered present xs (item.Attention first second)))

-- the status is 128 after an attention exactly if it is not answered, or the byte directly before it is not
missing_exactly : ItemsOfOneMore → LackingAmongLater → (present : Present) (before : List Element) (first : ℕ) (second : Option ℕ)
    → (status_of present 0 before (before ++ Attention first second ∷ []) == 128) ≡ (not (is_answered present (items_of before) (item.Attention first second)) || is_unanswered_byte present (items_of before) (last_or None before))
missing_exactly one_more later present before first second =
    status_test (is_lacking present (length (items_of before)) (items_of (before ++ Attention first second ∷ [])))
    ∙ ap (is_lacking present (length (items_of before))) (one_more before (Attention first second))
    ∙ later present (items_of before) (flushed (held_of before) (Attention first second) ++ item.Attention first second ∷ [])
    ∙ lacking_at present (items_of before) (held_of before) first second
    ∙ ap (λ b. not (is_answered present (items_of before) (item.Attention first second)) || b) (waiting present (items_of before) before)

-- in the kept mode a device is missing exactly if the LISTEN, or any item before it in the run, is not answered
missing_kept : ItemsOnlyGrow → LackingInTwoParts → (present : Present) (before : List Element) (listen : Element) → (status_of present (found_of Kept present before) before (before ++ listen ∷ []) == 128) ≡ is_lacking present 0 (items_of (before ++ listen ∷ []))
missing_kept grow two_parts present before listen = ap (λ n. n == 128) (kept_status grow two_parts present before (listen ∷ [])) ∙ status_test (is_lacking present 0 (items_of (before ++ listen ∷ [])))

-- what these laws are taken from
pub record SendingLaws : Type 0 where
  pub one_more : ItemsOfOneMore
  pub grow : ItemsOnlyGrow
  pub later : LackingAmongLater
  pub two_parts : LackingInTwoParts

-- a missing device in both modes
missing_by : SendingLaws → (mode : StatusMode) (present : Present) (before : List Element) (file : File) → seems_missing present (found_of mode present before) before file ≡ is_missing mode present before file
missing_by laws Each present before file = missing_exactly laws.one_more laws.later present before (32 + file.device) (second_from 96 file.second)
missing_by laws Kept present before file = missing_kept laws.grow laws.two_parts present before (listen_to file)

-- the stop of CMD, by whether it stops
stop_at : (b : Bool) (es : List Element) (bytes : List ℕ) (at after : Setting)
    → let e : Effect = cond b (stopping DeviceNotPresent es at) (record { elements = es ++ map Byte bytes; screen = []; stop = None; after = after }) in e.stop ≡ cond b (Some DeviceNotPresent) None
stop_at true es bytes at after = refl
stop_at false es bytes at after = refl

-- the stop of CMD
commanding_stop : (mode : StatusMode) (present : Present) (before : List Element) (at : Setting) (number : ℕ) (line : Text) (f : Option File)
    → (commanding (is_missing mode present before) at number line f).stop ≡ command_stop mode present before f
commanding_stop mode present before at number line None = refl
commanding_stop mode present before at number line (Some file) =
    stop_at (is_missing mode present before file) (listen_to file ∷ []) (printed_bytes line number) at (record { files = at.files; channel = number; output = file.device })

-- UNLISTEN leaves the stop
unlistening_stop_at : (stops : Bool) (e : Effect)
    → let after : Effect = cond stops e (record e { elements = e.elements ++ unlisten ∷ []; after = record { files = e.after.files; channel = 0; output = 3 } }) in after.stop ≡ e.stop
unlistening_stop_at false e = refl
unlistening_stop_at true e = refl

-- the stop of OPEN
opening_stop : (stop : Option Stop) (file : File) (at : Setting) → (opening stop file at).stop ≡ stop
opening_stop None file at = refl
opening_stop (Some stop) file at = refl

-- PRINT has no stop
print_stop : (b : Bool) (bytes : List ℕ) (at : Setting) → let e : Effect = cond b (record { elements = map Byte bytes; screen = []; stop = None; after = at }) (record { elements = []; screen = bytes; stop = None; after = at }) in e.stop ≡ None
print_stop true bytes at = refl
print_stop false bytes at = refl

-- the stop of each statement
stop_of : (mode : StatusMode) (present : Present) (before : List Element) (at : Setting) (statement : Statement) → (effect_of (is_missing mode present before) at statement).stop ≡ stop_in mode present before at statement
stop_of mode present before at (OpenFile file device second) = opening_stop (open_stop at.files file) (record { number = file; device = device; second = second }) at
stop_of mode present before at (Cmd file line) = commanding_stop mode present before at file line (file_at at.files file)
stop_of mode present before at (PrintTo file line) =
    let e = commanding (is_missing mode present before) at file line (file_at at.files file) in
    unlistening_stop_at (is_some e.stop) e ∙ commanding_stop mode present before at file line (file_at at.files file)
stop_of mode present before at (Print line) = print_stop (nat_lt 3 at.output) (printed_bytes line at.channel) at
stop_of mode present before at (CloseFile file) = refl
stop_of mode present before at Rem = refl

-- the laws
pub stops_exactly : StopsExactly
stops_exactly = stop_of

pub missing_by_status : SendingLaws → MissingByStatus
missing_by_status laws = missing_by laws

-- two tests that agree on each file give the same effects
pub effects_by_status : SendingLaws → EffectsByStatus
effects_by_status laws = λ mode present before at statement. λ i. effect_of (λ file. missing_by laws mode present before file i) at statement
