use Rattle.pr_wire.proofs.DelayBounds.{delay_in}
use Rattle.pr_wire.proofs.delay.delays_within_bounds.Goals as goal

pub returns : goal.returns
returns c = delay_in
