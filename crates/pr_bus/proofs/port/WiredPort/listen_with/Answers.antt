use Rattle.pr_bus.proofs.HearingMore.{listens-all}
use Rattle.pr_bus.proofs.port.WiredPort.listen_with.Goals as goal

pub returns-then-other-clause-listens : goal.returns-then-other-clause-listens
returns-then-other-clause-listens c = listens-all c.args.edges.now c.args.self.now c.hear_with.new.self c.if-self.true c.hear_with.ensures.hears

pub returns-then-other-clause-other_listens : goal.returns-then-other-clause-other_listens
returns-then-other-clause-other_listens c = listens-all c.args.edges.now c.args.other.now c.hear_with.new.other c.if-other.true c.hear_with.ensures.other_hears
