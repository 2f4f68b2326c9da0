use Rattle.pr_bus.proofs.PortLemmas.{hears-more}
use Rattle.pr_bus.proofs.port.WiredPort.listen.Goals as goal

pub returns-then-self : goal.returns-then-self
returns-then-self c = λ device there forgotten trace a h.
    hears-more trace c.args.edges.now c.args.self.now c.hear.new.self c.if-self.true c.hear.ensures.hears c.hear.ensures.device c.hear.ensures.present c.hear.ensures.count device there forgotten a h
