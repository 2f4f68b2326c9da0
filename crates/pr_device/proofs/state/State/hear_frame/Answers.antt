use Rattle.std.proofs.Common.{refl, ap, ◌∙◌}
use Rattle.pr_device.specs.Events.{event_by}
use Rattle.pr_device.proofs.Stepping.{kept_in}
use Rattle.pr_device.proofs.state.State.hear_frame.Goals as goal

pub returns-clause-hears : goal.returns-clause-hears
returns-clause-hears c = record {
  event_is = λ before h. c.event_by-event.ensures ∙ ap (λ l. event_by l c.args.frame) h;
  kept = λ before h. ap (kept_in c.args.self.now.listener.device) (c.hear-input.ensures.heard before h).1;
  device = refl;
  same = refl;
}
