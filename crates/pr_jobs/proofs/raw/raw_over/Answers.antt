use Rattle.std.proofs.Common.{rules, ◌≡◌, refl}
use Rattle.pr_jobs.proofs.RawLemmas.{written_raw}
use Rattle.pr_jobs.proofs.raw.raw_over.Goals as goal

pub returns-in-Ok-clause-raw : goal.returns-in-Ok-clause-raw
returns-in-Ok-clause-raw g c =
    written_raw c.args.shapes.now c.args.lower c.args.format (g.R.Read.remaining c.args.input.now.inner) c.in_ok-paper.paper c.in_ok-text.text c.of-end.result _ _
    c.in_ok-paper.ensures.paper (rw c.outcome_with-outcome.ensures at c.in_ok-text.ensures) (rw c.outcome_with-outcome.ensures at c.of-end.ensures) c.in-Ok.ensures.ok
