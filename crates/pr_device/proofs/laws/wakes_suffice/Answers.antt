use Rattle.pr_device.proofs.Shown.{wakes-suffice}
use Rattle.pr_device.proofs.laws.wakes_suffice.Goals as goal

pub returns : goal.returns
returns c = wakes-suffice c.frames_are_heard_in_turn.ensures.listening
