use Rattle.std.proofs.Common.{◌≡◌, ◌+◌, ◌≤◌, false}
use Rattle.pr_wire.specs.Checked.{line_count}
use Rattle.pr_jobs.proofs.CheckLemmas.{HasRead}
use Rattle.pr_jobs.proofs.check.check_input.Given as goal

-- the bytes so far were taken from the front and their lines written, and nothing has failed
abbrev pub invariant-pieces : goal.invariant-pieces
invariant-pieces g l = record {
  read : HasRead l.limit (g.R.Read.remaining l.fn.input.inner) (g.R.Read.remaining l.input.inner) l.lines.items l.checker l.left;
  few : line_count l.checker + l.left ≤ l.limit;
  fresh : l.input.failed ≡ false;
}

abbrev pub decreases-pieces : goal.decreases-pieces
decreases-pieces g l = l.left
