use Rattle.pr_device.proofs.Hearing.{histories-heard}
use Rattle.pr_device.proofs.laws.histories_are_heard.Goals as goal

pub returns : goal.returns
returns c = histories-heard
