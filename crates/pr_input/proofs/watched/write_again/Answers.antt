use Rattle.pr_input.proofs.KnownSteps.{kept_then_appended}
use Rattle.pr_input.proofs.watched.write_again.Goals as goal

pub returns-in-Ok-clause-bytes : goal.returns-in-Ok-clause-bytes
returns-in-Ok-clause-bytes g c =
    kept_then_appended (g.W.Write.contents c.args.inner.now) (g.W.Write.contents c.tries.inner) (g.W.Write.contents c.write.new.self) _ c.tries.invariant c.in-Ok.ensures.bytes
