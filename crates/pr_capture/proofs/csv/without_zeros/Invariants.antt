use Rattle.std.proofs.Common.{◌≡◌, drop}
use Rattle.pr_capture.specs.Csv.{without_zeros}
use Rattle.pr_capture.proofs.csv.without_zeros.Given as goal

-- what was passed says nothing
abbrev pub invariant-loop-i : goal.invariant-loop-i
invariant-loop-i l = without_zeros (drop l.i l.bytes) ≡ without_zeros l.bytes
