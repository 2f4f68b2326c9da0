-- Trusted: the expressions of a statement, worked out in a state.
use Rattle.std.specs.Prelude.{ℕ, Bool, List, [], ◌∷◌, ◌++◌, if◌then◌else◌, Option, Some, None, Result, Ok, Err}
use Rattle.pr_interpreter.specs.declared.expressions.Placed.{Placed}
use Rattle.pr_interpreter.specs.declared.memory.Arrays.{Arrays}
use Rattle.pr_interpreter.specs.declared.values.Halt.{Halt}
use Rattle.pr_interpreter.specs.declared.values.Value.{Value}
use Rattle.pr_interpreter.specs.Evaluation.{Scope, evaluation}
use Rattle.pr_interpreter.specs.Numbers.{Known}
use Rattle.pr_run.specs.declared.programs.Program.{Program}
use Rattle.pr_run.specs.Memory.{bytes_for_arrays}
use Rattle.pr_run.specs.Opened.{stack_left}
use Rattle.pr_run.specs.States.{State}
use Rattle.pr_run.specs.Uses.{Valued, Worked, and_then, halted, line_at, number_of, truth_of, use_of, used, whole_of}

-- what comes after a value is worked out
abbrev pub then_on : {A B : Type 0} → Worked (Valued A) → (A → State → Worked B) → Worked B
then_on (Ok r) more = more r.value r.after
then_on (Err ending) more = Err ending

abbrev pub valued : {A : Type 0} → State → Worked A → Worked (Valued A)
valued s (Ok a) = Ok (record { value = a; after = s })
valued s (Err ending) = Err ending

-- steps for one thing after another
abbrev pub each : {A : Type 0} → (State → A → Worked State) → State → List A → Worked State
each f s [] = Ok s
each f s (x ∷ xs) = and_then (f s x) (λ t. each f t xs)

-- values of one thing after another, after those that were found
abbrev pub every : {A B : Type 0} → (State → A → Worked (Valued B)) → List B → State → List A → Worked (Valued (List B))
every f found s [] = Ok (record { value = found; after = s })
every f found s (x ∷ xs) = then_on (f s x) (λ b t. every f (found ++ b ∷ []) t xs)

-- the screen's column: 0, if all that is on the screen ends with a return
abbrev pub column : State → Option ℕ
column s = if s.at_left then Some 0 else None

-- what an expression sees of a state
abbrev pub scope : Program → State → Scope
scope p s = record {
  text = p.text;
  parameters = [];
  variables = s.variables;
  functions = s.functions;
  column = column s;
  has_sent = s.has_sent;
  memory = bytes_for_arrays p s;
  stack = stack_left s.opened;
}

abbrev pub worked_out : ℕ → State → Arrays → Result Value Halt → Worked (Valued Value)
worked_out line s arrays (Ok v) = Ok (record { value = v; after = record s { arrays = arrays } })
worked_out line s arrays (Err halt) = Err (halted line halt)

-- the value of an expression
unfoldable pub worked : Program → State → List Placed → Worked (Valued Value)
worked p s nodes = let e = evaluation (scope p s) s.arrays nodes in worked_out (line_at p s) s e.arrays e.value

-- a number
unfoldable pub number : Program → State → List Placed → Worked (Valued Known)
number p s nodes = then_on (worked p s nodes) (λ v t. valued t (used (use_of p t nodes) (number_of v)))

-- a whole number from 0 to a greatest one
unfoldable pub whole : ℕ → Program → State → List Placed → Worked (Valued ℕ)
whole greatest p s nodes = then_on (worked p s nodes) (λ v t. valued t (used (use_of p t nodes) (whole_of greatest v)))

-- whether a condition is true
unfoldable pub truth : Program → State → List Placed → Worked (Valued Bool)
truth p s nodes = then_on (worked p s nodes) (λ v t. valued t (used (use_of p t nodes) (truth_of v)))
