use Rattle.pr_bus.proofs.log.Log.add.Goals as goal

pub returns-clause-four : goal.returns-clause-four
returns-clause-four c = λ there forgotten trace a h. c.listen_with.ensures.listens 4 there forgotten trace a h

pub returns-clause-five : goal.returns-clause-five
returns-clause-five c = λ there forgotten trace a h. c.listen_with.ensures.other_listens 5 there forgotten trace a h
