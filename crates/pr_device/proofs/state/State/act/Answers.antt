use Rattle.std.proofs.Common.{refl}
use Rattle.pr_device.proofs.state.State.act.Goals as goal

pub returns-clause-acts : goal.returns-clause-acts
returns-clause-acts c = record {
  middle = c.hear-event.new.self;
  hears = rw (← c.follow-frame.ensures.moved, ← c.follow-frame.ensures.frame) c.hear-event.ensures.hears;
  pulls_is = c.pulls-held.ensures;
  wake_is = c.wake.ensures;
  new_is = refl;
}
