use Rattle.std.proofs.Common.{◌≡◌, length}
use Rattle.pr_explain.specs.TracePlaces.{row_to}
use Rattle.pr_explain.proofs.rows.row_to.Given as goal

-- the row is that of what is left
abbrev pub invariant-loop-rest : goal.invariant-loop-rest
invariant-loop-rest l = row_to l.levels l.fn.rows ≡ row_to l.levels l.rest

abbrev pub decreases-loop-rest : goal.decreases-loop-rest
decreases-loop-rest l = length l.rest
