use Rattle.pr_device.proofs.Called.{can-be-called}
use Rattle.pr_device.proofs.laws.devices_can_be_called.Goals as goal

pub returns : goal.returns
returns c = can-be-called c.frames_are_heard_in_turn.ensures.listening
