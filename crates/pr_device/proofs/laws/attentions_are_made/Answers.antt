use Rattle.pr_device.proofs.Calling.{calls-made}
use Rattle.pr_device.proofs.laws.attentions_are_made.Goals as goal

pub returns : goal.returns
returns c = calls-made c.frames_are_heard_in_turn.ensures.listening c.delays_within_bounds.ensures
