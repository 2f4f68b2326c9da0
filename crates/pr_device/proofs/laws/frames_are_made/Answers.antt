use Rattle.pr_device.proofs.Making.{frames-made}
use Rattle.pr_device.proofs.laws.frames_are_made.Goals as goal

pub returns : goal.returns
returns c = frames-made c.frames_are_heard_in_turn.ensures.listening c.delays_within_bounds.ensures
