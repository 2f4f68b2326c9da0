use Rattle.std.proofs.Common.{◌≡◌, ◌∷◌, true, sym, subst}
use Rattle.pr_wire.specs.declared.Edge.{Edge}
use Rattle.pr_device.specs.declared.state.State.{State}
use Rattle.pr_device.specs.Data.{pulls, standing, wake}
use Rattle.pr_device.specs.Seen.{HasSeen}
use Rattle.pr_device.specs.Spoken.{is_spoken_to}
use Rattle.pr_device.proofs.Stepping.{acts-timing, acts-until, acts-device, acts-pulls, acts-seen, acts-event}
use Rattle.pr_device.proofs.Stepping.{acts-data, acts-wake, acts-later, acts-spoken}
use Rattle.pr_device.proofs.device.Device.step.Goals as goal

pub returns-clause-event : goal.returns-clause-event
returns-clause-event c =
    rw (← c.self.view_is) (λ h k. acts-event h c.self.inside.state _ c.act.result c.act.new.self c.act.ensures.acts k)

pub returns-clause-seen : goal.returns-clause-seen
returns-clause-seen c =
    rw (← c.self.view_is) (λ h k. acts-seen h c.self.inside.state _ c.act.result c.act.new.self c.act.ensures.acts k)

pub returns-clause-data : goal.returns-clause-data
returns-clause-data c = λ h k.
    let e : Edge = record { time = c.args.now; levels = c.args.levels } in
    let v = c.self.view_is in
    subst (λ (s : State). c.act.result.pulls_data
    ≡ pulls s.timing s.until s.pulls (standing s.timing.wait s.listener.device (e ∷ h)) c.args.now) v
    (acts-data h c.self.inside.state e c.act.result c.act.new.self c.act.ensures.acts
    (subst (λ s. HasSeen h s) (sym v) k))

pub returns-clause-pulls : goal.returns-clause-pulls
returns-clause-pulls c = acts-pulls c.self.inside.state _ c.act.result c.act.new.self c.act.ensures.acts

pub returns-clause-called : goal.returns-clause-called
returns-clause-called c = λ h k p.
    let e : Edge = record { time = c.args.now; levels = c.args.levels } in
    let v = c.self.view_is in
    subst (λ (s : State). is_spoken_to s.timing (standing s.timing.wait s.listener.device (e ∷ h)) c.args.now ≡ true) v
    (acts-spoken h c.self.inside.state e c.act.result c.act.new.self c.act.ensures.acts
    (subst (λ s. HasSeen h s) (sym v) k) p)

pub returns-clause-wake : goal.returns-clause-wake
returns-clause-wake c = λ h k.
    let e : Edge = record { time = c.args.now; levels = c.args.levels } in
    let v = c.self.view_is in
    subst (λ (s : State). c.act.result.wake
    ≡ wake s.timing s.until c.act.result.pulls_data (standing s.timing.wait s.listener.device (e ∷ h)) c.args.now) v
    (acts-wake h c.self.inside.state e c.act.result c.act.new.self c.act.ensures.acts
    (subst (λ s. HasSeen h s) (sym v) k))

pub returns-clause-later : goal.returns-clause-later
returns-clause-later c = acts-later c.self.inside.state _ c.act.result c.act.new.self c.act.ensures.acts

pub returns-clause-device : goal.returns-clause-device
returns-clause-device c =
    rw (← c.self.view_is) (acts-device c.self.inside.state _ c.act.result c.act.new.self c.act.ensures.acts)

pub returns-clause-timing : goal.returns-clause-timing
returns-clause-timing c =
    rw (← c.self.view_is) (acts-timing c.self.inside.state _ c.act.result c.act.new.self c.act.ensures.acts)

pub returns-clause-busy : goal.returns-clause-busy
returns-clause-busy c =
    rw (← c.self.view_is) (acts-until c.self.inside.state _ c.act.result c.act.new.self c.act.ensures.acts)
