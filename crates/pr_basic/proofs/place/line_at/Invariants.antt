use Rattle.std.proofs.Common.{◌≤◌, ◌+◌, length}
use Rattle.pr_basic.proofs.LinesAt.{AreBefore}
use Rattle.pr_basic.proofs.place.line_at.Given as goal

-- the lines before those that are left do not reach the place
abbrev pub invariant-loop-rest : goal.invariant-loop-rest
invariant-loop-rest l = record { lines : AreBefore l.text l.place l.number l.rest; count : l.number + length l.rest ≤ length l.text }

abbrev pub decreases-loop-rest : goal.decreases-loop-rest
decreases-loop-rest l = length l.rest
