use Rattle.pr_device.proofs.Pairs.{pairs-share}
use Rattle.pr_device.proofs.laws.pairs_share_the_line.Goals as goal

pub returns : goal.returns
returns c = pairs-share
