use Rattle.std.proofs.Common.{ap}
use Rattle.pr_receiver.specs.Heard.{heard_of}
use Rattle.pr_recording.proofs.laws.traces_are_heard_as_spelled.Goals as goal

pub returns : goal.returns
returns c = λ device edges frames spells. ap (heard_of device) (c.traces_are_read.ensures.acknowledged edges frames spells)
