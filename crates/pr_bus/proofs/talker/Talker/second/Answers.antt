use Rattle.std.proofs.Common.{◌∙◌}
use Rattle.pr_wire.specs.Choices.{left}
use Rattle.pr_bus.proofs.AttentionLemmas.{second-edges-of, second-ack-of}
use Rattle.pr_bus.proofs.talker.Talker.second.Goals as goal

pub returns-clause-edges : goal.returns-clause-edges
returns-clause-edges c =
    second-edges-of c.args.self.now c.args.ack c.from.result c.in-Some.byte c.args.second (left c.next.new.self) _ c.push.new.edges.items _
    c.in-Some.is (c.from.ensures ∙ c.next.ensures.delay) c.next.ensures.left c.in_ok-push.ensures c.in_ok-last.ensures.edges

pub returns-clause-ack : goal.returns-clause-ack
returns-clause-ack c =
    second-ack-of c.args.self.now c.args.ack c.from.result c.in-Some.byte c.in_ok-last.last c.args.second (left c.next.new.self)
    c.in-Some.is (c.from.ensures ∙ c.next.ensures.delay) c.next.ensures.left c.in_ok-last.ensures.ack
