-- Trusted: the bytes of the lists of PRINT, PRINT# and CMD.
use Rattle.std.specs.Prelude.{ℕ, ◌==◌, Bool, true, false, List, [], ◌∷◌, ◌++◌, length, replicate, nat_le, if◌then◌else◌}
use Rattle.std.specs.Prelude.{Ok, Err}
use Rattle.pr_basic.specs.Limits.{byte_limit}
use Rattle.pr_basic.specs.Text.{Text as Line}
use Rattle.pr_interpreter.specs.declared.statements.Item.{Item}
use Rattle.pr_interpreter.specs.declared.statements.Part.{Part}
use Rattle.pr_interpreter.specs.declared.statements.Part.TheVariants.{Comma, Semicolon, Spaces, Tab, Value as Shows}
use Rattle.pr_interpreter.specs.declared.values.Value.{Value}
use Rattle.pr_interpreter.specs.declared.values.Value.TheVariants.{Number, Text}
use Rattle.pr_interpreter.specs.Functions.{number_text}
use Rattle.pr_run.specs.declared.ending.Ending.TheVariants.{Refused}
use Rattle.pr_run.specs.declared.ending.Refusal.TheVariants.{LongList, NotCertain}
use Rattle.pr_run.specs.declared.programs.Program.{Program}
use Rattle.pr_run.specs.declared.uses.Use.{Use}
use Rattle.pr_run.specs.States.{State}
use Rattle.pr_run.specs.Uses.{Valued, Worked, and_then, use_at, used, whole_of}
use Rattle.pr_run.specs.Worked.{then_on, valued, worked}

-- the byte of a step to the right: a cursor right to the screen, a blank to a file
abbrev pub step_byte : ℕ → ℕ
step_byte channel = if channel == 0 then 29 else 32

-- so many steps to the right
abbrev pub steps_right : ℕ → ℕ → List ℕ
steps_right channel n = replicate n (step_byte channel)

-- The column is that of the screen's cursor, also where the output goes to a file. It is known only if all that is on
-- the screen ends with a return: then it is 0.
abbrev pub at_column : Use → State → List ℕ → Worked (List ℕ)
at_column u s bytes = if s.at_left then Ok bytes else Err (Refused NotCertain u.place)

-- TAB goes right from column 0
abbrev pub tab_bytes : Use → State → Worked ℕ → Worked (List ℕ)
tab_bytes u s n = and_then n (λ k. at_column u s (steps_right s.channel k))

-- SPC goes right from anywhere
abbrev pub space_bytes : State → Worked ℕ → Worked (List ℕ)
space_bytes s n = and_then n (λ k. Ok (steps_right s.channel k))

-- a step to the right follows a number
abbrev pub number_bytes : State → Worked (List ℕ) → Worked (List ℕ)
number_bytes s text = and_then text (λ bytes. Ok (bytes ++ step_byte s.channel ∷ []))

abbrev pub value_bytes : Use → State → Value → Worked (List ℕ)
value_bytes u s (Text t) = Ok t
value_bytes u s (Number n) = number_bytes s (used u (number_text n))

-- the bytes of a part of a list
unfoldable pub part_bytes : Program → Use → State → Part → Worked (Valued (List ℕ))
part_bytes p u s (Shows nodes) = then_on (worked p s nodes) (λ v t. valued t (value_bytes u t v))
part_bytes p u s (Tab nodes) = then_on (worked p s nodes) (λ v t. valued t (tab_bytes u t (used u (whole_of 255 v))))
part_bytes p u s (Spaces nodes) = then_on (worked p s nodes) (λ v t. valued t (space_bytes t (used u (whole_of 255 v))))
part_bytes p u s Comma = valued s (at_column u s (steps_right s.channel 10))
part_bytes p u s Semicolon = valued s (Ok [])

-- the cursor is at the left after bytes that end with a return; after none it stays
abbrev pub at_left_after : Bool → List ℕ → Bool
at_left_after before [] = before
at_left_after before (b ∷ bs) = at_left_after (b == 13) bs

-- the screen shows bytes if no file has the output
abbrev pub shown : List ℕ → State → State
shown bytes s =
    record s { at_left = if s.channel == 0 then at_left_after s.at_left bytes else s.at_left }

-- a list has at most 255 bytes
abbrev pub fitting : Use → List ℕ → Worked (List ℕ)
fitting u bytes = if nat_le (length bytes) byte_limit then Ok bytes else Err (Refused LongList u.place)

-- a part's bytes after those before it
unfoldable pub with_part : Program → List ℕ → State → Item → Worked (Valued (List ℕ))
with_part p bytes s i = let u = use_at p s i.place in
    then_on (part_bytes p u s i.part) (λ more t. valued (shown more t) (fitting u (bytes ++ more)))

-- the bytes of parts after those before them
abbrev pub with_parts : Program → List ℕ → State → List Item → Worked (Valued (List ℕ))
with_parts p bytes s [] = Ok (record { value = bytes; after = s })
with_parts p bytes s (i ∷ is) = then_on (with_part p bytes s i) (λ more t. with_parts p more t is)

abbrev pub is_value : Part → Bool
is_value (Shows nodes) = true
is_value (Tab nodes) = false
is_value (Spaces nodes) = false
is_value Comma = false
is_value Semicolon = false

-- whether a line ends after parts; for no parts it is the first argument
abbrev pub ends_after : Bool → List Item → Bool
ends_after ends [] = ends
ends_after ends (i ∷ is) = ends_after (is_value i.part) is

abbrev pub line_valued : Bool → List ℕ → State → Valued Line
line_valued ends bytes s =
    record { value = record { bytes = bytes; ends = ends }; after = if ends then shown (13 ∷ []) s else s }

-- what a list prints: a return ends it, unless its last part is no value
unfoldable pub printed : Program → State → List Item → Worked (Valued Line)
printed p s is = then_on (with_parts p [] s is) (λ bytes t. Ok (line_valued (ends_after true is) bytes t))
