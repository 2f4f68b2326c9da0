use Rattle.std.proofs.Common.{arith, ap, subst, sym, ◌∙◌}
use Rattle.pr_device.specs.Seen.{HasSeen}
use Rattle.pr_device.specs.Sound.{IsSound}
use Rattle.pr_exports.specs.DeviceKept.{stored}
use Rattle.pr_exports.proofs.DevicesStored.{shown-next}
use Rattle.pr_exports.proofs.devices.show_device.Goals as goal

pub returns-clause-tells : goal.returns-clause-tells
returns-clause-tells c = λ history h.
    let step = c.step-step.ensures in
    let is = c.in-Some.ensures.device in
    let kept = c.state.ensures.value in
    let seen = subst (λ s. HasSeen history s) (sym is) h.seen in (
      omega (arith, h.last, c.if-edge-device.false),
      omega (arith, c.if-edge-ge-MOMENTS.false),
      shown-next history c.args.edge c.args.device.now c.store.result c.in-Some.shown c.step-step.new.self
          c.step-step.result is (c.store.ensures ∙ ap (stored c.args.edge.time) kept)
          (subst IsSound kept c.state.ensures.sound) (step.seen history seen) (step.event history seen)
          (step.data history seen) (step.wake history seen) step.pulls step.device step.timing step.busy,
    )
