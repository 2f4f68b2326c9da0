use Rattle.std.proofs.Common.{◌≡◌, sym, ap, ◌∙◌}
use Rattle.std.specs.Prelude.{reverse}
use Rattle.pr_device.specs.Events.{events_of, inputs_of_events}
use Rattle.pr_device.specs.Seen.{events_with}
use Rattle.pr_device.proofs.Hearing.{histories-heard, inputs-heard}
use Rattle.pr_device.proofs.Talking.{traces-say}
use Rattle.pr_device.proofs.laws.traces_are_heard.Goals as goal

pub returns-clause-said : goal.returns-clause-said
returns-clause-said c = traces-say

pub returns-clause-heard : goal.returns-clause-heard
returns-clause-heard c = λ wait device edges frames s.
    let e : events_with wait device (reverse edges) ≡ events_of device frames =
    histories-heard wait device (reverse edges) ∙ ap (events_of device) (traces-say wait edges frames s) in (
      e,
      ap inputs_of_events e
          ∙ (inputs-heard device frames ∙ sym (c.traces_give_what_is_heard.ensures.heard device edges frames s)),
    )
