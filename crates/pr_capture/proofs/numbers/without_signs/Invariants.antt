use Rattle.std.proofs.Common.{◌≡◌, drop}
use Rattle.pr_capture.specs.Numbers.{without_signs}
use Rattle.pr_capture.proofs.numbers.without_signs.Given as goal

-- what was passed says nothing
abbrev pub invariant-loop-i : goal.invariant-loop-i
invariant-loop-i l = without_signs (drop l.i l.bytes) ≡ without_signs l.bytes
