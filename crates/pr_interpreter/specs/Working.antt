-- Linking words: what an expression is worked out with, for the code's types. No reader needs to believe them.
use Rattle.std.specs.Prelude.{ℕ, ◌-◌, List, Option, Some, None, Ok}
use Rattle.pr_interpreter.specs.declared.given.Given.{Given}
use Rattle.pr_interpreter.specs.declared.evaluation.Work.{Work}
use Rattle.pr_interpreter.specs.declared.memory.Array.{Array}
use Rattle.pr_interpreter.specs.declared.memory.Arrays.{Arrays}
use Rattle.pr_interpreter.specs.declared.memory.Parameter.{Parameter}
use Rattle.pr_interpreter.specs.declared.memory.Scope.{Scope as Sources}
use Rattle.pr_interpreter.specs.declared.values.Value.{Value}
use Rattle.pr_interpreter.specs.Evaluation.{Evaluation, Scope, Working, element}

-- the scope of an expression, in functions with these parameters
abbrev pub scope_of : List Parameter → Sources → Scope
scope_of parameters s = record {
  text = s.text.now;
  parameters = parameters;
  variables = s.variables.now;
  functions = s.functions.now;
  column = s.column;
  has_sent = s.has_sent;
  memory = s.memory;
  stack = s.stack;
}

-- the same scope with so many bytes less of the stack
abbrev pub with_less : ℕ → Scope → Scope
with_less taken s = record s { stack = s.stack - taken }

-- an expression has a value, and leaves arrays
abbrev pub ends_as : Value → Arrays → Evaluation
ends_as v arrays = record { value = Ok v; arrays = arrays }

-- what is worked with
abbrev pub seen : Work → Working
seen w = record { arrays = w.arrays; given = w.given.items; strings = w.strings }

-- what an element of an array gives, if there is the array
abbrev pub element_of : Option Array → List ℕ → Option Given
element_of None is = None
element_of (Some a) is = Some (element a is)
