use Rattle.std.proofs.Common.{◌≡◌, drop}
use Rattle.pr_capture.specs.Csv.{has_return}
use Rattle.pr_capture.proofs.csv.has_return.Given as goal

-- what was passed has no byte 13
abbrev pub invariant-loop-i : goal.invariant-loop-i
invariant-loop-i l = has_return (drop l.i l.line) ≡ has_return l.line
