use Rattle.std.proofs.Common.{ap, ◌∙◌, drop, ◌≡◌}
use Rattle.pr_wire.specs.Choices.{left}
use Rattle.pr_wire.specs.Delays.{delay_at}
use Rattle.pr_wire.specs.declared.delay.Kind.TheVariants.{Ye, Ei, F}
use Rattle.pr_bus.specs.declared.printer.TimedPrinter.{TimedPrinter}
use Rattle.pr_bus.proofs.PrinterLemmas.{byte-hearers}
use Rattle.pr_bus.proofs.FrameLemmas.{delay-drop, drop-twice}
use Rattle.pr_bus.proofs.printer.TimedPrinter.byte.Goals as goal
use Rattle.pr_bus.proofs.printer.TimedPrinter.byte.Goals.{then-eoi, else-eoi}

pub returns-clause-hearers : goal.returns-clause-hearers
returns-clause-hearers c =
    let numbers = left c.args.self.now.choices in
    let two : left c.next-wait.new.self ≡ drop 2 (left c.args.self.now.choices) = c.next-wait.ensures.left ∙ ap (λ l. drop 1 l) c.next-hold.ensures.left ∙ drop-twice 1 1 (left c.args.self.now.choices) in
    byte-hearers c.args.eoi c.args.self.now _ _ _ _ (cc) (cc)
    c.next-hold.ensures.delay
    (c.next-wait.ensures.delay ∙ ap (λ l. delay_at Ye l 0) c.next-hold.ensures.left ∙ delay-drop Ye 1 (left c.args.self.now.choices) 0)
    (elim c.if-eoi.branch [
      | then-eoi w ↦ rw w.if-eoi.true (w.answer-is ∙ w.next-answer.ensures.delay ∙ ap (λ l. delay_at Ei l 0) two ∙ delay-drop Ei 2 (left c.args.self.now.choices) 0)
      | else-eoi w ↦ rw w.if-eoi.false w.answer-is
    ])
    (elim c.if-eoi.branch [
      | then-eoi w ↦ rw w.if-eoi.true (c.next-accept.ensures.delay ∙ ap (λ (p : TimedPrinter). delay_at F (left p.choices) 0) w.self-is ∙ ap (λ l. delay_at F l 0) (w.next-answer.ensures.left ∙ ap (λ l. drop 1 l) two ∙ drop-twice 2 1 (left c.args.self.now.choices)) ∙ delay-drop F 3 (left c.args.self.now.choices) 0)
      | else-eoi w ↦ rw w.if-eoi.false (c.next-accept.ensures.delay ∙ ap (λ (p : TimedPrinter). delay_at F (left p.choices) 0) w.self-is ∙ ap (λ l. delay_at F l 0) two ∙ delay-drop F 2 (left c.args.self.now.choices) 0)
    ])
