use Rattle.pr_device.proofs.Waking.{wakes-act}
use Rattle.pr_device.proofs.laws.wakes_are_acts.Goals as goal

pub returns : goal.returns
returns c = wakes-act
