use Rattle.std.proofs.Common.{◌≡◌, drop}
use Rattle.pr_interpreter.specs.Memory.{array_of}
use Rattle.pr_interpreter.proofs.memory.array_of.Given as goal

abbrev pub invariant-loop-array : goal.invariant-loop-array
invariant-loop-array l = array_of l.name (drop l.array-index l.arrays) ≡ array_of l.name l.arrays
