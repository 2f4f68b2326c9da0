use Rattle.std.proofs.Common.{ap, sym, ◌∙◌, ◌≡◌, ◌&&◌, ◌||◌, ◌+◌}
use Rattle.pr_wire.specs.Choices.{left}
use Rattle.pr_wire.specs.Delays.{delay_at}
use Rattle.pr_wire.specs.declared.delay.Kind.TheVariants.{R}
use Rattle.pr_bus.specs.Timed as all
use Rattle.pr_bus.specs.Talking.{lines_of}
use Rattle.pr_bus.proofs.TalkLemmas.{releases, rest-heard, rest-due}
use Rattle.pr_bus.proofs.talker.Talker.release.Goals as goal
use Rattle.pr_bus.proofs.talker.Talker.release.Goals.{then-is_heard, else-is_heard}

pub returns-then-not-unlisten-clause-lines : goal.returns-then-not-unlisten-clause-lines
returns-then-not-unlisten-clause-lines c =
    let four : (c.freed.new.self.present && c.freed.new.self.listens) ≡ (c.args.self.now.four.present && c.args.self.now.four.listens) = ap (λ v. v && c.freed.new.self.listens) c.freed.ensures.same.present ∙ ap (λ v. c.args.self.now.four.present && v) c.freed.ensures.listens in
    let five : (c.freed-2.new.self.present && c.freed-2.new.self.listens) ≡ (c.args.self.now.five.present && c.args.self.now.five.listens) = ap (λ v. v && c.freed-2.new.self.listens) c.freed-2.ensures.same.present ∙ ap (λ v. c.args.self.now.five.present && v) c.freed-2.ensures.listens in
    let heard : ((c.args.self.now.four.present && c.args.self.now.four.listens) || (c.args.self.now.five.present && c.args.self.now.five.listens)) ≡ c.is_heard.result =
    sym (c.is_heard.ensures ∙ ap (λ v. v || (c.freed-2.new.self.present && c.freed-2.new.self.listens)) four ∙ ap (λ v. (c.args.self.now.four.present && c.args.self.now.four.listens) || v) five) in
    elim c.if-is_heard.branch [
      | then-is_heard w ↦ ap lines_of w.self-is ∙ rest-heard c.args.self.now c.args.ack c.args.unlisten c.if-not-unlisten.true (heard ∙ w.if-is_heard.true)
      | else-is_heard w ↦
          ap lines_of w.self-is
          ∙ rest-due c.args.self.now c.args.ack _ c.args.unlisten c.if-not-unlisten.true (heard ∙ w.if-is_heard.false)
          (ap (λ d. c.args.ack + d + c.from-2.result) (c.from.ensures ∙ c.next.ensures.delay)
          ∙ ap (λ d. c.args.ack + delay_at R (left c.args.self.now.computer) 0 + d) (c.from-2.ensures ∙ c.greatest.ensures ∙ ap all.greatest (releases c.args.self.now.four c.args.self.now.five c.freed.result c.freed-2.result (heard ∙ w.if-is_heard.false) c.freed.ensures.time c.freed-2.ensures.time)))
    ]
