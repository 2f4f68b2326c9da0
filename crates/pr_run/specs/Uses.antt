-- Trusted: what the values of a statement give; where one is an error or not certain, the run ends.
use Rattle.std.specs.Prelude.{ℕ, ◌||◌, ◌&&◌, Bool, true, false, not, List, [], ◌∷◌, min, nat_lt, if◌then◌else◌, Option}
use Rattle.std.specs.Prelude.{Some, None, Result, Ok, Err}
use Rattle.pr_interpreter.specs.declared.expressions.Placed.{Placed}
use Rattle.pr_interpreter.specs.declared.names.Kind.{Kind}
use Rattle.pr_interpreter.specs.declared.names.Kind.TheVariants.{Number as Numeric, Text as Letters, Whole as Short}
use Rattle.pr_interpreter.specs.declared.orders.Order.{Order}
use Rattle.pr_interpreter.specs.declared.values.BasicError.TheVariants.{IllegalQuantity, TypeMismatch}
use Rattle.pr_interpreter.specs.declared.values.Halt.{Halt}
use Rattle.pr_interpreter.specs.declared.values.Halt.TheVariants.{Error as Reports, NotCertain as Doubts}
use Rattle.pr_interpreter.specs.declared.values.Halt.TheVariants.{FullMemory as Fills, FullStack as Deepens}
use Rattle.pr_interpreter.specs.declared.values.Halt.TheVariants.{NotTaken as Lacks, OutOfMemory as Exhausts}
use Rattle.pr_interpreter.specs.declared.values.Stop.{Stop}
use Rattle.pr_interpreter.specs.declared.values.Stop.TheVariants.{Error as Reported, NotCertain as Uncertain}
use Rattle.pr_interpreter.specs.declared.values.Stop.TheVariants.{OutOfMemory as NoMemory}
use Rattle.pr_interpreter.specs.declared.values.Value.{Value}
use Rattle.pr_interpreter.specs.declared.values.Value.TheVariants.{Number, Text}
use Rattle.pr_interpreter.specs.declared.whole_numbers.Whole.{Whole}
use Rattle.pr_interpreter.specs.Functions.{whole_to}
use Rattle.pr_interpreter.specs.Numbers.{Known, floor, is_zero, order_of, whole_number, zero_number}
use Rattle.pr_run.specs.declared.ending.Ending.{Ending}
use Rattle.pr_run.specs.declared.ending.Ending.TheVariants.{Error, OutOfMemory, Refused}
use Rattle.pr_run.specs.declared.ending.Refusal.TheVariants.{FullMemory, FullStack, NotCertain, NotTaken}
use Rattle.pr_run.specs.declared.opened.Direction.{Direction}
use Rattle.pr_run.specs.declared.opened.Direction.TheVariants.{Down, Still, Up}
use Rattle.pr_run.specs.declared.programs.Program.{Program}
use Rattle.pr_run.specs.declared.uses.Use.{Use}
use Rattle.pr_run.specs.Places.{number_at, start_before}
use Rattle.pr_run.specs.States.{State}

-- ---- how a run ends where there is no answer

-- what a statement works out, or how the run ends instead
abbrev pub Worked : Type 0 → Type 0
Worked A = Result A Ending

abbrev pub and_then : {A B : Type 0} → Worked A → (A → Worked B) → Worked B
and_then (Ok a) more = more a
and_then (Err ending) more = Err ending

-- what is worked out, and the state after it: arrays may be made where an expression is worked out
pub record Valued (A : Type 0) : Type 0 where
  pub value : A
  pub after : State

-- the number of a state's line
abbrev pub line_at : Program → State → ℕ
line_at p s = number_at p.lines s.place

-- a use of a value at a place of the text
abbrev pub use_at : Program → State → ℕ → Use
use_at p s place = record { line = line_at p s; place = place }

-- the first place in the text that a node of an expression has
abbrev pub place_from : ℕ → List Placed → ℕ
place_from place [] = place
place_from place (n ∷ ns) = place_from (min place n.place) ns

abbrev pub first_place : List Placed → ℕ
first_place [] = 0
first_place (n ∷ ns) = place_from n.place ns

-- a use of the value of an expression
abbrev pub use_of : Program → State → List Placed → Use
use_of p s nodes = use_at p s (first_place nodes)

-- where the statement that is performed begins in the text: it is the one before the state's place
abbrev pub statement_place : Program → State → ℕ
statement_place p s = start_before p.lines s.place

-- a use at that place
abbrev pub statement_use : Program → State → Use
statement_use p s = use_at p s (statement_place p s)

-- how the run ends where a use of a value has no answer
abbrev pub ending_of : Use → Stop → Ending
ending_of u Uncertain = Refused NotCertain u.place
ending_of u (Reported e) = Error e u.line
ending_of u NoMemory = OutOfMemory

abbrev pub used : {A : Type 0} → Use → Result A Stop → Worked A
used u (Ok a) = Ok a
used u (Err stop) = Err (ending_of u stop)

-- and where an expression in a line has no value
abbrev pub halted : ℕ → Halt → Ending
halted line (Doubts place) = Refused NotCertain place
halted line (Lacks place) = Refused NotTaken place
halted line (Fills place) = Refused FullMemory place
halted line (Deepens place) = Refused FullStack place
halted line (Reports e) = Error e line
halted line Exhausts = OutOfMemory

-- ---- numbers

-- a number is needed
abbrev pub number_of : Value → Result Known Stop
number_of (Number n) = Ok n
number_of (Text t) = Err (Reported TypeMismatch)

-- a whole number from 0 to a greatest one is needed
abbrev pub whole_of : ℕ → Value → Result ℕ Stop
whole_of greatest (Number n) = whole_to greatest n
whole_of greatest (Text t) = Err (Reported TypeMismatch)

-- 0 is false, and what is certainly not 0 is true; what a string is, is not certain
abbrev pub truth_of : Value → Result Bool Stop
truth_of (Text t) = Err Uncertain
truth_of (Number n) =
    if is_zero n then Ok false else if (order_of n zero_number).equal then Err Uncertain else Ok true

-- ---- what variables keep

-- every value is below -32768, or at least 32768
abbrev pub is_long : Order → Order → Bool
is_long low high = (low.less && not low.equal && not low.greater) || not high.less

-- the whole number that is not above a number, from -32768 to 32767
abbrev pub short_of : Known → Option Whole → Result Known Stop
short_of n None =
    if is_long (order_of n (whole_number true 32768)) (order_of n (whole_number false 32768))
    then Err (Reported IllegalQuantity) else Err Uncertain
short_of n (Some w) =
    if nat_lt (if w.negative then 32768 else 32767) w.magnitude then Err (Reported IllegalQuantity)
    else Ok (whole_number w.negative w.magnitude)

abbrev pub number_value : Result Known Stop → Result Value Stop
number_value (Ok n) = Ok (Number n)
number_value (Err stop) = Err stop

-- what a variable with % keeps of a number
unfoldable pub short_value : Known → Result Value Stop
short_value n = number_value (short_of n (floor n))

-- what a variable of a kind keeps of a value
unfoldable pub kept : Kind → Value → Result Value Stop
kept Numeric (Number n) = Ok (Number n)
kept Short (Number n) = short_value n
kept Letters (Text t) = Ok (Text t)
kept Numeric (Text t) = Err (Reported TypeMismatch)
kept Short (Text t) = Err (Reported TypeMismatch)
kept Letters (Number n) = Err (Reported TypeMismatch)

-- ---- loops

-- the way that a step goes, by its order to 0
unfoldable pub direction_by : Order → Result Direction Stop
direction_by o =
    if o.greater then (if o.less || o.equal then Err Uncertain else Ok Up)
    else if o.less then (if o.equal then Err Uncertain else Ok Down) else Ok Still

-- a variable in this order to the limit ends the loop
abbrev pub may_end : Direction → Order → Bool
may_end Up o = o.greater
may_end Down o = o.less
may_end Still o = o.equal

-- and in this one the loop goes on
abbrev pub may_go_on : Direction → Order → Bool
may_go_on Up o = o.less || o.equal
may_go_on Down o = o.greater || o.equal
may_go_on Still o = o.less || o.greater

-- whether a loop ends
unfoldable pub ends_loop : Direction → Order → Result Bool Stop
ends_loop d o = if may_end d o then (if may_go_on d o then Err Uncertain else Ok true) else Ok false
