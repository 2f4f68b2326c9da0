use Rattle.std.proofs.Common.{◌≡◌, drop}
use Rattle.pr_interpreter.specs.Memory.{function_of}
use Rattle.pr_interpreter.proofs.memory.function_of.Given as goal

abbrev pub invariant-loop-function : goal.invariant-loop-function
invariant-loop-function l = function_of l.name (drop l.function-index l.functions) ≡ function_of l.name l.functions
