use Rattle.pr_bus.proofs.log.Log.forget.Goals as goal

pub returns-clause-four : goal.returns-clause-four
returns-clause-four c = λ there forgotten trace h. c.forget.ensures 4 there forgotten trace h

pub returns-clause-five : goal.returns-clause-five
returns-clause-five c = λ there forgotten trace h. c.forget-2.ensures 5 there forgotten trace h
