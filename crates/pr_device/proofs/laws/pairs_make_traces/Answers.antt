use Rattle.pr_device.proofs.Numbering.{pairs-make}
use Rattle.pr_device.proofs.laws.pairs_make_traces.Goals as goal

pub returns : goal.returns
returns c = pairs-make c.timed_traces_are_made.ensures
