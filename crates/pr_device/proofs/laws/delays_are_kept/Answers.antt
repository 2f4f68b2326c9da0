use Rattle.pr_device.proofs.Delays.{delays-kept}
use Rattle.pr_device.proofs.laws.delays_are_kept.Goals as goal

pub returns : goal.returns
returns c = delays-kept
