use Rattle.std.proofs.Common.{◌≡◌, ◌+◌, drop}
use Rattle.std.specs.List.{position_or_len}
use Rattle.pr_interpreter.specs.Memory.{same_name}
use Rattle.pr_run.proofs.assignments.array_place.Given as goal

abbrev pub invariant-loop-i : goal.invariant-loop-i
invariant-loop-i l =
    position_or_len (λ x. same_name l.name x.name) l.arrays
    ≡ l.i + position_or_len (λ x. same_name l.name x.name) (drop l.i l.arrays)
