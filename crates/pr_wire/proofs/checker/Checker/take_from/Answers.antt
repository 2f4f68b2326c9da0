use Rattle.std.proofs.Common.{false, sym, ◌∙◌}
use Rattle.pr_wire.proofs.CheckLaws.{taken_at, taken_line}
use Rattle.pr_wire.proofs.checker.Checker.take_from.Goals as goal

pub returns-in-Some-clause-checked : goal.returns-in-Some-clause-checked
returns-in-Some-clause-checked c = λ text frames h.
    taken_at false _ _ _ _ _ _ (sym (c.take_edge-frame.ensures.bad ∙ c.if-not-self.true))
    (taken_line text c.args.text.now frames _ _ _ _ c.args.self.now.follower _ c.in-Some.line _ (sym c.is_nothing.ensures ∙ c.if-is_nothing.true) (sym c.read_ended_line.ensures.line ∙ c.in-Some.is)
    c.take_edge-frame.ensures.part c.take_edge-frame.ensures.count c.take_edge-frame.ensures.leads (taken_at _ false text frames _ _ _ c.if-not-self.true h))
