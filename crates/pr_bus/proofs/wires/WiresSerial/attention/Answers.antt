use Rattle.std.proofs.Common.{ap, sym, subst, ◌∙◌, ◌++◌, ◌∷◌, [], length, ◌<◌, ◌^◌, refl, true}
use Rattle.pr_serial.specs.declared.Item.TheVariants.{Attention}
use Rattle.pr_bus.specs.WiresState.{WiresState}
use Rattle.pr_bus.proofs.WiredLemmas.{ok-of, err-of, time-small, TraceLaws, wired-after, wired-failed, wired-still, same-port, ports-small, RoomLaws, ports-may}
use Rattle.pr_bus.specs.declared.wires.Wires.TheInside.{Inside}
use Rattle.pr_bus.specs.Wired.{numbers_of, IsWired}
use Rattle.pr_bus.proofs.wires.WiresSerial.attention.Goals as goal
use Rattle.pr_bus.proofs.wires.WiresSerial.attention.Goals.{then-self-via-then-self, then-self-via-else-self+then-is_err, then-self-via-else-self+else-is_err+then-is_err-2}

pub attention-requires-clause-room : goal.attention-requires-clause-room
attention-requires-clause-room c =
    let w = c.self.inside in
    time-small w.present (numbers_of w.offsets w.talker) w.log.items.items w.talker c.self.invariant.items (c.self.invariant.at c.if-self.false).state
    (subst (λ (v : WiresState). length v.items < 2 ^ 32) (sym c.self.view_is) c.requires.room)

pub add-requires-clause-four_taken : goal.add-requires-clause-four_taken
add-requires-clause-four_taken c =
    (ports-small c.timed_traces_are_bounded.ensures.whole c.timed_traces_are_bounded.ensures.shares c.self.inside (Attention c.args.first c.args.second) c.deref-2.result.now c.grow.new.self c.self.invariant c.if-self.false c.requires.may_send
    (subst (λ (v : WiresState). length v.items < 2 ^ 32) (sym c.self.view_is) c.requires.room)
    (λ before i. c.deref-2.ensures.value ∙ ok-of c.attention.result (sym c.is_err.ensures.value ∙ c.if-is_err.false) c.attention.ensures.edges before i) c.grow.ensures.four c.grow.ensures.five).0

pub add-requires-clause-five_taken : goal.add-requires-clause-five_taken
add-requires-clause-five_taken c =
    (ports-small c.timed_traces_are_bounded.ensures.whole c.timed_traces_are_bounded.ensures.shares c.self.inside (Attention c.args.first c.args.second) c.deref-2.result.now c.grow.new.self c.self.invariant c.if-self.false c.requires.may_send
    (subst (λ (v : WiresState). length v.items < 2 ^ 32) (sym c.self.view_is) c.requires.room)
    (λ before i. c.deref-2.ensures.value ∙ ok-of c.attention.result (sym c.is_err.ensures.value ∙ c.if-is_err.false) c.attention.ensures.edges before i) c.grow.ensures.four c.grow.ensures.five).1

pub add-requires-clause-four_may : goal.add-requires-clause-four_may
add-requires-clause-four_may c =
    let laws : RoomLaws =
    record {
      traces = record { spell = c.timed_traces_spell.ensures; lawful = c.fronts_are_allowed.ensures.lawful };
      wires = c.items_are_heard_on_wires.ensures.wires;
      item = c.hearing_is_local.ensures.one_more;
      few = c.hearing_is_local.ensures.few;
    } in
    let grown = sym c.is_err-else-is_err.ensures.value ∙ c.if-is_err-2.false in
    (ports-may laws c.self.inside (Attention c.args.first c.args.second) c.deref-2.result.now c.grow.new.self c.self.invariant c.if-self.false c.requires.may_send
    (λ before i. c.deref-2.ensures.value ∙ ok-of c.attention.result (sym c.is_err.ensures.value ∙ c.if-is_err.false) c.attention.ensures.edges before i) c.grow.ensures.four c.grow.ensures.five
    (ok-of c.grow.result grown c.grow.ensures.four_room) (ok-of c.grow.result grown c.grow.ensures.five_room)).0

pub add-requires-clause-five_may : goal.add-requires-clause-five_may
add-requires-clause-five_may c =
    let laws : RoomLaws =
    record {
      traces = record { spell = c.timed_traces_spell.ensures; lawful = c.fronts_are_allowed.ensures.lawful };
      wires = c.items_are_heard_on_wires.ensures.wires;
      item = c.hearing_is_local.ensures.one_more;
      few = c.hearing_is_local.ensures.few;
    } in
    let grown = sym c.is_err-else-is_err.ensures.value ∙ c.if-is_err-2.false in
    (ports-may laws c.self.inside (Attention c.args.first c.args.second) c.deref-2.result.now c.grow.new.self c.self.invariant c.if-self.false c.requires.may_send
    (λ before i. c.deref-2.ensures.value ∙ ok-of c.attention.result (sym c.is_err.ensures.value ∙ c.if-is_err.false) c.attention.ensures.edges before i) c.grow.ensures.four c.grow.ensures.five
    (ok-of c.grow.result grown c.grow.ensures.four_room) (ok-of c.grow.result grown c.grow.ensures.five_room)).1

pub invariant_of-self : goal.invariant_of-self
invariant_of-self c = elim c.then-self.branch [
  | then-self-via-then-self w ↦ subst (λ (v : Inside). IsWired (record v { failed = true })) (sym w.self-inside-is) (wired-still c.self.inside c.self.invariant)
  | then-self-via-else-self+then-is_err w ↦ subst (λ (v : Inside). IsWired (record v { failed = true })) (sym w.self-inside-is)
      (wired-failed c.self.inside c.self.inside.log w.attention.new.self c.self.invariant w.attention.ensures.same refl refl (same-port c.self.inside.log.four) (same-port c.self.inside.log.five))
  | then-self-via-else-self+else-is_err+then-is_err-2 w ↦ subst (λ (v : Inside). IsWired (record v { failed = true })) (sym w.self-inside-is)
      (wired-failed c.self.inside w.grow.new.self w.attention.new.self c.self.invariant w.attention.ensures.same w.grow.ensures.items
      (err-of w.grow.result (sym w.is_err-else-is_err.ensures.value ∙ w.if-is_err-2.true) w.grow.ensures.err) w.grow.ensures.four w.grow.ensures.five)
]

pub invariant_of-self-2 : goal.invariant_of-self-2
invariant_of-self-2 c =
    let w = c.self.inside in
    let laws : TraceLaws = record { spell = c.timed_traces_spell.ensures; lawful = c.fronts_are_allowed.ensures.lawful } in
    let sent = sym c.is_err.ensures.value ∙ c.if-is_err.false in
    let grown = sym c.is_err-else-is_err.ensures.value ∙ c.if-is_err-2.false in
    wired-after laws w c.grow.new.self c.add.new.self c.attention.new.self (Attention c.args.first c.args.second) c.deref-2.result.now c.self.invariant c.if-self.false c.requires.may_send c.attention.ensures.same
    (c.add.ensures.items ∙ ap (λ l. l ++ (Attention c.args.first c.args.second) ∷ []) c.grow.ensures.items)
    (c.add.ensures.trace ∙ ok-of c.grow.result grown c.grow.ensures.trace ∙ ap (λ l. w.log.trace.items ++ l) (c.deref.ensures.value ∙ sym c.deref-2.ensures.value))
    c.grow.ensures.four c.grow.ensures.five c.add.ensures.four c.add.ensures.five
    (λ before i. c.deref-2.ensures.value ∙ ok-of c.attention.result sent c.attention.ensures.edges before i) (ok-of c.attention.result sent c.attention.ensures.state) (ok-of c.attention.result sent c.attention.ensures.tuned)
