-- Trusted: the statements that say where a run goes on: GOTO, GOSUB, RETURN, ON, IF, FOR and NEXT.
use Rattle.std.specs.Prelude.{ℕ, zero, suc, ◌+◌, ◌∷◌, Bool, true, false, List, [], nat_le, if◌then◌else◌, Option, Some}
use Rattle.std.specs.Prelude.{None, Ok, Err}
use Rattle.std.specs.List.{slice_get}
use Rattle.pr_interpreter.specs.declared.expressions.Placed.{Placed}
use Rattle.pr_interpreter.specs.declared.names.Kind.{Kind}
use Rattle.pr_interpreter.specs.declared.names.Kind.TheVariants.{Number as Numeric, Text as Letters, Whole as Short}
use Rattle.pr_interpreter.specs.declared.names.Name.{Name}
use Rattle.pr_interpreter.specs.declared.statements.Target.{Target}
use Rattle.pr_interpreter.specs.declared.statements.Way.{Way}
use Rattle.pr_interpreter.specs.declared.statements.Way.TheVariants.{Gosub, Goto}
use Rattle.pr_interpreter.specs.declared.values.BasicError.TheVariants.{NextWithoutFor, ReturnWithoutGosub, Syntax}
use Rattle.pr_interpreter.specs.declared.values.BasicError.TheVariants.{TypeMismatch, UndefinedStatement}
use Rattle.pr_interpreter.specs.declared.values.Value.{Value}
use Rattle.pr_interpreter.specs.declared.values.Value.TheVariants.{Number, Text}
use Rattle.pr_interpreter.specs.Memory.{variable_value}
use Rattle.pr_interpreter.specs.Numbers.{Known, order_of, sum, whole_number, zero_number}
use Rattle.pr_interpreter.specs.Values.{calculated}
use Rattle.pr_run.specs.declared.ending.Ending.TheVariants.{Error, Refused}
use Rattle.pr_run.specs.declared.ending.Refusal.TheVariants.{FullStack}
use Rattle.pr_run.specs.declared.opened.Direction.{Direction}
use Rattle.pr_run.specs.declared.opened.Loop.{Loop}
use Rattle.pr_run.specs.declared.opened.Open.{Open}
use Rattle.pr_run.specs.declared.opened.Open.TheVariants.{Calling, Looping}
use Rattle.pr_run.specs.declared.place.Place.{Place}
use Rattle.pr_run.specs.Opened.{Caller, Inner, call_size, caller_of, loop_of, loop_size, stack_limit, stack_size}
use Rattle.pr_run.specs.Opened.{without}
use Rattle.pr_run.specs.Places.{beginning}
use Rattle.pr_run.specs.declared.programs.Program.{Program}
use Rattle.pr_run.specs.declared.uses.Use.{Use}
use Rattle.pr_run.specs.States.{State, next_line}
use Rattle.pr_run.specs.Assignments.{assigned, is_system, stored, system_ending, target_place}
use Rattle.pr_run.specs.Uses.{Valued, Worked, and_then, direction_by, ends_loop, line_at, statement_use, use_at, use_of}
use Rattle.pr_run.specs.Uses.{used}
use Rattle.pr_run.specs.Worked.{number, then_on, truth, whole, worked}

-- ---- GOTO, GOSUB and RETURN

-- a run goes on at a place, if there is one
abbrev pub gone_to : ℕ → State → Option Place → Worked State
gone_to line s None = Err (Error UndefinedStatement line)
gone_to line s (Some place) = Ok (record s { place = place })

-- the run goes on at the line of a number
unfoldable pub go_to : Program → ℕ → State → Worked State
go_to p number s = gone_to (line_at p s) s (beginning number p.lines)

-- the machine's stack surely has room for so many bytes more
abbrev pub with_room : Use → ℕ → State → Worked State
with_room u size s = if nat_le (size + stack_size s.opened) stack_limit then Ok s else Err (Refused FullStack u.place)

-- something more is open
abbrev pub with_open : Open → State → State
with_open o s = record s { opened = o ∷ s.opened }

-- GOTO; GOSUB, after which RETURN goes on with the next statement
unfoldable pub jump : Program → Way → ℕ → State → Worked State
jump p Goto n s = go_to p n s
jump p Gosub n s = and_then (with_room (statement_use p s) call_size s) (λ t. go_to p n (with_open (Calling t.place) t))

abbrev pub returned : ℕ → State → Option Caller → Worked State
returned line s None = Err (Error ReturnWithoutGosub line)
returned line s (Some c) = Ok (record s { place = c.back; opened = c.before })

-- RETURN: the loops since the last GOSUB are left
unfoldable pub return_statement : Program → State → Worked State
return_statement p s = returned (line_at p s) s (caller_of s.opened)

-- ---- ON

-- the line that is chosen, from 1
abbrev pub chosen : ℕ → List ℕ → Option ℕ
chosen zero lines = None
chosen (suc n) lines = slice_get lines n

-- no jump where there are fewer lines
abbrev pub jump_if : Program → Way → Option ℕ → State → Worked State
jump_if p way None s = Ok s
jump_if p way (Some n) s = jump p way n s

unfoldable pub on_statement : Program → State → List Placed → Way → List ℕ → Worked State
on_statement p s choice way lines = then_on (whole 255 p s choice) (λ n t. jump_if p way (chosen n lines) t)

-- ---- IF

-- a line, or the other statements of this line; if the condition is false, the next line
abbrev pub branch : Program → Option ℕ → Bool → State → Worked State
branch p line false s = Ok (next_line s)
branch p None true s = Ok s
branch p (Some n) true s = go_to p n s

unfoldable pub if_statement : Program → State → List Placed → Option ℕ → Worked State
if_statement p s condition line = then_on (truth p s condition) (λ b t. branch p line b t)

-- ---- FOR

-- the step of a loop: 1 if it is left out
abbrev pub step_of : Program → State → Option (List Placed) → Worked (Valued Known)
step_of p s None = Ok (record { value = whole_number false 1; after = s })
step_of p s (Some nodes) = number p s nodes

abbrev pub step_use : Program → State → Option (List Placed) → Use
step_use p s None = statement_use p s
step_use p s (Some nodes) = use_of p s nodes

-- the loop of a variable is left, with those inside it
abbrev pub left_loop : Name → State → State
left_loop name s = record s { opened = without (loop_of (Some name) s.opened) s.opened }

-- a loop begins, and its body is next
abbrev pub begun : Name → Known → Known → Direction → State → State
begun name limit step d s =
    with_open (Looping (record { variable = name; limit = limit; step = step; direction = d; body = s.place })) s

-- what comes after the limit of a loop
unfoldable pub with_step : Program → Name → Option (List Placed) → Known → State → Worked State
with_step p name step limit s =
    then_on (step_of p s step)
    (λ by t. and_then (used (step_use p t step) (direction_by (order_of by zero_number)))
    (λ d. Ok (begun name limit by d t)))

-- what comes after the first value of a loop's variable: a loop of the same variable is left, and there has to be room
unfoldable pub with_limit : Program → Name → List Placed → Option (List Placed) → State → Worked State
with_limit p name to step s =
    and_then (with_room (statement_use p s) loop_size (left_loop name s))
    (λ r. then_on (number p r to) (λ limit t. with_step p name step limit t))

-- the variable of a loop is a number that is no element and has no %
abbrev pub for_kind : Program → State → Kind → Name → List Placed → Worked State
for_kind p s Short name from = Err (Error Syntax (line_at p s))
for_kind p s Letters name from = then_on (worked p s from) (λ v t. Err (Error TypeMismatch (line_at p t)))
for_kind p s Numeric name from = then_on (worked p s from) (λ v t. assigned p (use_of p t from) name None v t)

-- a loop's variable has its first value
unfoldable pub for_variable : Program → State → Name → List Placed → Worked State
for_variable p s name from =
    if is_system name [] then Err (system_ending (statement_use p s) name.kind) else for_kind p s name.kind name from

unfoldable pub for_statement : Program → State → Name → List Placed → List Placed → Option (List Placed) → Worked State
for_statement p s name from to step = and_then (for_variable p s name from) (λ t. with_limit p name to step t)

-- ---- NEXT

-- where NEXT leads: to the body once more, or to what follows
pub data Passed : Type 0 where
  Again : State → Passed
  Over : State → Passed

abbrev pub after_pass : Passed → (State → Worked State) → Worked State
after_pass (Again s) more = Ok s
after_pass (Over s) more = more s

-- the loop is left, or its body is next
abbrev pub passed : Inner → Bool → State → Passed
passed i true s = Over (record s { opened = i.before })
passed i false s = Again (record s { place = i.current.body; opened = Looping i.current ∷ i.before })

-- the number that a loop's variable has
abbrev pub number_or_zero : Value → Known
number_or_zero (Number n) = n
number_or_zero (Text t) = zero_number

-- the step is added to the variable of a loop, and then the limit says whether the loop is over
unfoldable pub advanced : Use → Loop → State → Worked (Valued Bool)
advanced u l s =
    and_then (used u (calculated (sum (number_or_zero (variable_value l.variable s.variables)) l.step)))
    (λ n. and_then (used u (ends_loop l.direction (order_of n l.limit)))
    (λ over. Ok (record { value = over; after = stored l.variable None (Number n) s })))

abbrev pub next_of : Use → Option Inner → State → Worked Passed
next_of u None s = Err (Error NextWithoutFor u.line)
next_of u (Some i) s = then_on (advanced u i.current s) (λ over t. Ok (passed i over t))

-- the loop of a variable; no element has one
abbrev pub loop_for : Name → Option ℕ → List Open → Option Inner
loop_for name None os = loop_of (Some name) os
loop_for name (Some at) os = None

-- NEXT with a variable
unfoldable pub next_variable : Program → State → Target → Worked Passed
next_variable p s t =
    then_on (target_place p s t) (λ at r. next_of (use_at p r t.place) (loop_for t.name at r.opened) r)

-- NEXT with several variables: each after a loop that is over
abbrev pub next_variables : Program → State → List Target → Worked State
next_variables p s [] = Ok s
next_variables p s (t ∷ ts) = and_then (next_variable p s t) (λ r. after_pass r (λ u. next_variables p u ts))

-- NEXT without a variable: that of the last loop
unfoldable pub next_last : Program → State → Worked State
next_last p s =
    and_then (next_of (statement_use p s) (loop_of None s.opened) s) (λ r. after_pass r (λ t. Ok t))

unfoldable pub next_statement : Program → State → List Target → Worked State
next_statement p s [] = next_last p s
next_statement p s (t ∷ ts) = next_variables p s (t ∷ ts)
