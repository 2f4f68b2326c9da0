use Rattle.std.proofs.Common.{◌≡◌, drop}
use Rattle.pr_interpreter.specs.Memory.{parameter_of}
use Rattle.pr_interpreter.proofs.memory.parameter_of.Given as goal

abbrev pub invariant-loop-parameter : goal.invariant-loop-parameter
invariant-loop-parameter l = parameter_of l.name (drop l.parameter-index l.parameters)
    ≡ parameter_of l.name l.parameters
