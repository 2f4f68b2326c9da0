use Rattle.pr_bus.proofs.PortLemmas.{hears-one, room-for-given}
use Rattle.pr_bus.proofs.port.WiredPort.hear_one.Goals as goal

pub push_given-requires : goal.push_given-requires
push_given-requires c =
    let trace = c.requires.may.1 in
    let ready = c.requires.may.2 in
    room-for-given c.inputs_add_up.ensures.one_more c.requires.may.0 trace c.args.edge c.args.self.now c.edge-given.result ready (c.edge-given.ensures.allowed trace ready.hears.taken ready.hears.works ready.allowed)

pub returns-clause-hears : goal.returns-clause-hears
returns-clause-hears c = λ forgotten trace a h.
    let given = c.edge-given.ensures in
    hears-one c.inputs_add_up.ensures.one_more forgotten trace c.args.edge c.args.self.now _ c.edge-given.result h (given.allowed trace h.taken h.works a)
    given.taken given.works given.device c.push_given.ensures.items
