-- Trusted: READ and RESTORE: what an item of DATA gives to a variable.
use Rattle.std.specs.Prelude.{ℕ, ◌+◌, ◌==◌, Bool, true, false, List, [], ◌∷◌, length, take, drop, nat_le, slice_range}
use Rattle.std.specs.Prelude.{if◌then◌else◌, Option, Some, None, Ok, Err}
use Rattle.std.specs.List.{filter, list_all, position_or_len, slice_get}
use Rattle.pr_basic.specs.Limits.{byte_limit}
use Rattle.pr_interpreter.specs.declared.lexemes.Word.{Word}
use Rattle.pr_interpreter.specs.declared.names.Kind.{Kind}
use Rattle.pr_interpreter.specs.declared.names.Kind.TheVariants.{Number as Numeric, Text as Letters, Whole as Short}
use Rattle.pr_interpreter.specs.declared.names.Name.{Name}
use Rattle.pr_interpreter.specs.declared.statements.Target.{Target}
use Rattle.pr_interpreter.specs.declared.values.BasicError.TheVariants.{OutOfData, Syntax}
use Rattle.pr_interpreter.specs.declared.values.Value.{Value}
use Rattle.pr_interpreter.specs.declared.values.Value.TheVariants.{Number, Text}
use Rattle.pr_interpreter.specs.Functions.{constant_in, constant_number, front_byte, is_solid, without_sign}
use Rattle.pr_interpreter.specs.Numbers.{Known, negated}
use Rattle.pr_interpreter.specs.Symbols.{is_quote}
use Rattle.pr_run.specs.declared.data.DataItem.{DataItem}
use Rattle.pr_run.specs.declared.ending.Ending.TheVariants.{Error, Refused}
use Rattle.pr_run.specs.declared.ending.Refusal.TheVariants.{NotTaken}
use Rattle.pr_run.specs.declared.items.ItemValue.{ItemValue}
use Rattle.pr_run.specs.declared.programs.Program.{Program}
use Rattle.pr_run.specs.declared.uses.Use.{Use}
use Rattle.pr_run.specs.States.{State}
use Rattle.pr_run.specs.Assignments.{assigned, target_place}
use Rattle.pr_run.specs.Uses.{Worked, and_then, line_at, use_at, used}
use Rattle.pr_run.specs.Worked.{each, then_on}

-- ---- numbers

-- a number with the sign at the front of bytes
abbrev pub with_sign : List ℕ → Known → Known
with_sign bytes n = if front_byte bytes == 45 then negated n else n

-- a value that has so many of an item's bytes, of which there are so many
abbrev pub value_of : Value → ℕ → ℕ → ItemValue
value_of v taken size = record { value = v; is_all = taken == size }

-- the number that bytes without blanks begin with, by the constant after their sign
abbrev pub number_by : Use → List ℕ → Word × ℕ → Worked ItemValue
number_by u bytes constant =
    and_then (used u (constant_number constant.0))
    (λ n. Ok (value_of (Number (with_sign bytes n)) constant.1 (length (without_sign bytes))))

abbrev pub number_in : Use → List ℕ → Worked ItemValue
number_in u bytes = number_by u bytes (constant_in (without_sign bytes))

-- the number that an item begins with, blanks left out: 0 if it begins with none
unfoldable pub number_item : Use → List ℕ → Worked ItemValue
number_item u bytes = number_in u (filter is_solid bytes)

-- ---- strings

abbrev pub text_within : Use → List ℕ → Bool → Worked ItemValue
text_within u bytes is_all =
    if nat_le (length bytes) byte_limit then Ok (record { value = Text bytes; is_all = is_all })
    else Err (Refused NotTaken u.place)

abbrev pub is_blank : ℕ → Bool
is_blank b = b == 32

-- what follows the first quote of an item: a string, its last quote if it has one, and blanks
unfoldable pub quoted_item : Use → List ℕ → Worked ItemValue
quoted_item u bytes = let n = position_or_len is_quote bytes in
    text_within u (take n bytes) (list_all is_blank (drop (n + 1) bytes))

-- the string that an item begins with
abbrev pub text_item : Use → List ℕ → Worked ItemValue
text_item u [] = text_within u [] true
text_item u (b ∷ bs) = if is_quote b then quoted_item u bs else text_within u (b ∷ bs) true

-- ---- READ

-- what an item gives to a variable of a kind
unfoldable pub item_value : Kind → Use → List ℕ → Worked ItemValue
item_value Letters u bytes = text_item u bytes
item_value Numeric u bytes = number_item u bytes
item_value Short u bytes = number_item u bytes

abbrev pub next_item : State → State
next_item s = record s { items_read = s.items_read + 1 }

-- the value is all of the item; else the error is one of the item's line
abbrev pub if_all : DataItem → Bool → State → Worked State
if_all i true s = Ok s
if_all i false s = Err (Error Syntax i.line)

-- a variable or an element keeps the value of an item, before anything is said of what follows in the item
abbrev pub item_kept : Program → Use → Name → Option ℕ → DataItem → ItemValue → State → Worked State
item_kept p u name at i v s = and_then (assigned p u name at v.value s) (λ r. if_all i v.is_all r)

-- an item is read into a variable or an element
abbrev pub read_item : Program → State → Target → Option ℕ → Option DataItem → Worked State
read_item p s t at None = Err (Error OutOfData (line_at p s))
read_item p s t at (Some i) = let u = use_at p s i.start in
    and_then (item_value t.name.kind u (slice_range p.text i.start i.end))
    (λ v. item_kept p u t.name at i v (next_item s))

unfoldable pub read_target : Program → State → Target → Worked State
read_target p s t =
    then_on (target_place p s t) (λ at r. read_item p r t at (slice_get p.items r.items_read))

-- READ
unfoldable pub read_statement : Program → State → List Target → Worked State
read_statement p s ts = each (read_target p) s ts

-- RESTORE: the first item is the next
unfoldable pub restore_statement : State → State
restore_statement s = record s { items_read = 0 }
