use Rattle.pr_device.proofs.Traces.{traces-made}
use Rattle.pr_device.proofs.laws.timed_traces_are_made.Goals as goal

pub returns : goal.returns
returns c =
    traces-made c.frames_are_heard_in_turn.ensures.listening c.items_make_listeners.ensures
    c.delays_within_bounds.ensures c.timed_traces_spell.ensures
