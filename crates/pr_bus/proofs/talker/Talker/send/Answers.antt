use Rattle.std.proofs.Common.{ap, sym, ◌∙◌, ◌++◌, drop, ◌+◌}
use Rattle.pr_wire.specs.Choices.{left}
use Rattle.pr_bus.specs.Timed.{Done, due_edges}
use Rattle.pr_bus.specs.Talking.{lines_of}
use Rattle.pr_bus.proofs.FrameLemmas.{drop-twice}
use Rattle.pr_bus.proofs.TalkLemmas.{heard-edges, heard-state, tuned-sent, done-heard, dropped-edges}
use Rattle.pr_bus.proofs.talker.Talker.send.Goals as goal

pub returns-then-is_heard-clause-edges : goal.returns-then-is_heard-clause-edges
returns-then-is_heard-clause-edges c = λ before i.
    heard-edges before c.args.self.now c.args.byte c.args.eoi _ (left c.next.new.self) c.push_due.new.edges.items _ i (sym c.is_heard.ensures ∙ c.if-is_heard.true)
    (ap (λ d. c.args.self.now.time + d) (c.from.ensures ∙ c.next.ensures.delay)) c.next.ensures.left
    (c.in_ok-push_due.ensures ∙ ap (λ l. l ++ due_edges (lines_of c.args.self.now.lines)) c.clear.ensures.items)
    c.in_ok-frame.ensures.edges

pub returns-then-is_heard-clause-state : goal.returns-then-is_heard-clause-state
returns-then-is_heard-clause-state c = λ before i.
    heard-state before c.args.self.now c.frame.new.self c.args.byte c.args.eoi _ (left c.next.new.self) i
    (ap (λ d. c.args.self.now.time + d) (c.from.ensures ∙ c.next.ensures.delay)) c.next.ensures.left
    c.in_ok-frame.ensures.now c.in_ok-frame.ensures.lines (c.in_ok-frame.ensures.computer ∙ ap (λ l. drop 17 l) c.next.ensures.left ∙ drop-twice 1 17 (left c.args.self.now.computer))
    c.in_ok-frame.ensures.four c.in_ok-frame.ensures.five
    ∙ ap (λ (d : Done). d.wires) (sym (done-heard before c.args.self.now c.args.byte c.args.eoi i (sym c.is_heard.ensures ∙ c.if-is_heard.true)))

pub returns-then-is_heard-clause-tuned : goal.returns-then-is_heard-clause-tuned
returns-then-is_heard-clause-tuned c = λ before i.
    tuned-sent c.items_make_listeners.ensures before c.args.self.now c.frame.new.self c.args.byte c.args.eoi i
    (record { four = c.frame.ensures.same.four; five = c.frame.ensures.same.five; numbers = c.frame.ensures.same.numbers ∙ c.next.ensures.numbers })
    (record { four = c.frame.ensures.listens.four; five = c.frame.ensures.listens.five })

pub returns-clause-edges : goal.returns-clause-edges
returns-clause-edges c = λ before i.
    c.in_ok-drop_byte.ensures.edges
    ∙ dropped-edges before c.args.self.now c.args.byte c.args.eoi _ c.push_due.new.edges.items i (sym c.is_heard.ensures ∙ c.if-is_heard.false)
    (ap (λ d. c.args.self.now.time + d) (c.from.ensures ∙ c.next.ensures.delay))
    (c.in_ok-push_due.ensures ∙ ap (λ l. l ++ due_edges (lines_of c.args.self.now.lines)) c.clear.ensures.items)
