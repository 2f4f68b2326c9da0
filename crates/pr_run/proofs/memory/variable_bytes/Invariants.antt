use Rattle.std.proofs.Common.{◌≡◌, drop}
use Rattle.pr_interpreter.specs.Memory.{variable_value}
use Rattle.pr_run.proofs.memory.variable_bytes.Given as goal

abbrev pub invariant-loop-variable : goal.invariant-loop-variable
invariant-loop-variable l =
    variable_value l.name (drop l.variable-index l.variables) ≡ variable_value l.name l.variables
