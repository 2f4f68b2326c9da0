use Rattle.std.proofs.Common.{◌≡◌, ◌+◌, false}
use Rattle.pr_page.specs.Taken.{number_taken}
use Rattle.pr_jobs.proofs.RawLemmas.{HasPrinted}
use Rattle.pr_jobs.proofs.raw.print_input.Given as goal

-- the bytes so far were taken from the front and printed, and nothing has failed
abbrev pub invariant-pieces : goal.invariant-pieces
invariant-pieces g l = record {
  printed : HasPrinted l.limit (g.R.Read.remaining l.fn.input.inner) (g.R.Read.remaining l.input.inner) l.lower l.printer l.left;
  count : number_taken l.printer + l.left ≡ 1 + l.limit;
  fresh : l.input.failed ≡ false;
}

abbrev pub decreases-pieces : goal.decreases-pieces
decreases-pieces g l = l.left
