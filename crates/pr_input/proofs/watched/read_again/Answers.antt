use Rattle.pr_input.proofs.KnownSteps.{kept_then_consumed}
use Rattle.pr_input.proofs.watched.read_again.Goals as goal

pub returns-in-Ok-clause-bytes : goal.returns-in-Ok-clause-bytes
returns-in-Ok-clause-bytes g c =
    (kept_then_consumed (g.R.Read.remaining c.args.inner.now) (g.R.Read.remaining c.tries.inner) (g.R.Read.remaining c.read.new.self) _ c.tries.invariant c.in-Ok.ensures.bytes.0, c.in-Ok.ensures.bytes.1)
