use Rattle.std.proofs.Common.{false, sym, ◌∙◌}
use Rattle.pr_wire.specs.declared.line_part.LinePart.TheVariants.{Nothing}
use Rattle.pr_wire.proofs.CheckLaws.{taken_at, taken_first_bad, taken_edge}
use Rattle.pr_wire.proofs.checker.Checker.end_line.Goals as goal

pub returns-in-None-clause-checked : goal.returns-in-None-clause-checked
returns-in-None-clause-checked c = λ text frames h.
    taken_first_bad text frames frames _ Nothing _ c.args.self.now.follower c.args.self.now.follower (sym c.edge-edge.ensures ∙ c.in-None.is) (taken_at _ false text frames _ _ _ c.if-self.false h)

pub returns-in-Some-clause-checked : goal.returns-in-Some-clause-checked
returns-in-Some-clause-checked c = λ text frames h.
    taken_at false _ _ _ _ _ _ (sym (c.take_edge.ensures.bad ∙ c.if-self.false))
    (taken_edge text frames _ _ _ _ c.args.self.now.follower _ _ _ (sym c.edge-edge.ensures ∙ c.in-Some.is) c.take_edge.ensures.part c.take_edge.ensures.count c.take_edge.ensures.leads
    (taken_at _ false text frames _ _ _ c.if-self.false h))
