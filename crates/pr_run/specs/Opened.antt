-- Trusted: the loops of FOR and the calls of GOSUB that are open, the last first.
use Rattle.std.specs.Prelude.{ℕ, ◌+◌, ◌-◌, Bool, true, List, [], ◌∷◌, Option, Some, None, if◌then◌else◌}
use Rattle.pr_interpreter.specs.declared.names.Name.{Name}
use Rattle.pr_interpreter.specs.Memory.{same_name}
use Rattle.pr_run.specs.declared.opened.Loop.{Loop}
use Rattle.pr_run.specs.declared.opened.Open.{Open}
use Rattle.pr_run.specs.declared.opened.Open.TheVariants.{Calling, Looping}
use Rattle.pr_run.specs.declared.place.Place.{Place}

-- a loop, and what was open before it
pub record Inner : Type 0 where
  pub current : Loop
  pub before : List Open

-- a loop's variable is the one of a name, or any
abbrev pub is_wanted : Option Name → Name → Bool
is_wanted None name = true
is_wanted (Some n) name = same_name n name

-- the last loop of a name, or the last of all, among those since the last GOSUB
abbrev pub loop_of : Option Name → List Open → Option Inner
loop_of wanted [] = None
loop_of wanted (Calling p ∷ os) = None
loop_of wanted (Looping l ∷ os) =
    if is_wanted wanted l.variable then Some (record { current = l; before = os }) else loop_of wanted os

-- what is open without that loop and those inside it
abbrev pub without : Option Inner → List Open → List Open
without None os = os
without (Some i) os = i.before

-- where the last GOSUB returns to, and what was open before it
pub record Caller : Type 0 where
  pub back : Place
  pub before : List Open

abbrev pub caller_of : List Open → Option Caller
caller_of [] = None
caller_of (Calling p ∷ os) = Some (record { back = p; before = os })
caller_of (Looping l ∷ os) = caller_of os

-- how many bytes of the machine's stack a loop and a call take
abbrev pub loop_size : ℕ
loop_size = 18

abbrev pub call_size : ℕ
call_size = 7

abbrev pub open_size : Open → ℕ
open_size (Looping l) = loop_size
open_size (Calling p) = call_size

abbrev pub stack_size : List Open → ℕ
stack_size [] = 0
stack_size (o ∷ os) = open_size o + stack_size os

-- How many bytes of the machine's stack are certain to be free for what is open, and for what waits in an expression.
-- Of the 246 that there are in a statement, the machine wants 64 to be free, and the statement itself has at most 20.
abbrev pub stack_limit : ℕ
stack_limit = 162

-- how many are left for an expression
unfoldable pub stack_left : List Open → ℕ
stack_left os = stack_limit - stack_size os
