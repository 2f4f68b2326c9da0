use Rattle.std.proofs.Common.{◌≡◌, ◌≤◌, ◌*◌, ◌++◌, List, length, ap, ◌∙◌, arith, length-append, subst, sym}
use Rattle.std.proofs.lemmas.Grind.{common_steps}
use Rattle.pr_page.specs.declared.input.Input.{Input}
use Rattle.pr_serial.specs.Heard.{heard_by}
use Rattle.pr_serial.specs.HeardSinceMark.{items_before}
use Rattle.pr_bus.specs.WiresState.{WiresState}
use Rattle.pr_bus.specs.Wired.{numbers_of}
use Rattle.pr_bus.proofs.WiredLemmas.{heard-since, present-four, present-five}
use Rattle.pr_bus.proofs.wires.Wires.heard.Goals as goal

four-since : (c : goal.After-deref) → let w = c.self.inside in heard_by w.present 4 (items_before w.mark w.log.items.items) ++ w.log.four.inputs.items ≡ heard_by w.present 4 w.log.items.items
four-since c =
    let w = c.self.inside in
    heard-since c.items_are_heard_on_wires.ensures.wires w.present (numbers_of w.offsets w.talker) w.mark w.log.items.items 4 w.present.four w.log.four c.self.invariant.items (present-four w.present) c.self.invariant.ports.four

five-since : (c : goal.After-deref-in-5) → let w = c.self.inside in heard_by w.present 5 (items_before w.mark w.log.items.items) ++ w.log.five.inputs.items ≡ heard_by w.present 5 w.log.items.items
five-since c =
    let w = c.self.inside in
    heard-since c.items_are_heard_on_wires.ensures.wires w.present (numbers_of w.offsets w.talker) w.mark w.log.items.items 5 w.present.five w.log.five c.self.invariant.items (present-five w.present) c.self.invariant.ports.five

pub returns-in-4 : goal.returns-in-4
returns-in-4 c =
    let w = c.self.inside in
    record {
      heard =
          subst (λ k. heard_by c.args.self.now.present k (items_before c.args.self.now.mark c.args.self.now.items) ++ c.deref.result.now ≡ heard_by c.args.self.now.present k c.args.self.now.items) (sym c.in-4.is)
          (subst (λ (v : WiresState). heard_by v.present 4 (items_before v.mark v.items) ++ c.deref.result.now ≡ heard_by v.present 4 v.items) c.self.view_is
          (ap (λ l. heard_by w.present 4 (items_before w.mark w.log.items.items) ++ l) c.deref.ensures.value ∙ four-since c));
      absent = grind (arith, common_steps);
      bounded = c.hearing_is_local.ensures.bounded c.args.self.now.present c.args.device c.args.self.now.items;
      short =
          subst (λ (v : WiresState). length c.deref.result.now ≤ 2 * length v.items) c.self.view_is
          (omega (
            arith,
            ap {A = List Input} (λ l. length l) c.deref.ensures.value,
            ap {A = List Input} (λ l. length l) (four-since c),
            length-append (heard_by w.present 4 (items_before w.mark w.log.items.items)) w.log.four.inputs.items,
            c.hearing_is_local.ensures.bounded w.present 4 w.log.items.items,
          ));
    }

pub returns-in-5 : goal.returns-in-5
returns-in-5 c =
    let w = c.self.inside in
    record {
      heard =
          subst (λ k. heard_by c.args.self.now.present k (items_before c.args.self.now.mark c.args.self.now.items) ++ c.deref-in-5.result.now ≡ heard_by c.args.self.now.present k c.args.self.now.items) (sym c.in-5.is)
          (subst (λ (v : WiresState). heard_by v.present 5 (items_before v.mark v.items) ++ c.deref-in-5.result.now ≡ heard_by v.present 5 v.items) c.self.view_is
          (ap (λ l. heard_by w.present 5 (items_before w.mark w.log.items.items) ++ l) c.deref-in-5.ensures.value ∙ five-since c));
      absent = grind (arith, common_steps);
      bounded = c.hearing_is_local.ensures.bounded c.args.self.now.present c.args.device c.args.self.now.items;
      short =
          subst (λ (v : WiresState). length c.deref-in-5.result.now ≤ 2 * length v.items) c.self.view_is
          (omega (
            arith,
            ap {A = List Input} (λ l. length l) c.deref-in-5.ensures.value,
            ap {A = List Input} (λ l. length l) (five-since c),
            length-append (heard_by w.present 5 (items_before w.mark w.log.items.items)) w.log.five.inputs.items,
            c.hearing_is_local.ensures.bounded w.present 5 w.log.items.items,
          ));
    }
