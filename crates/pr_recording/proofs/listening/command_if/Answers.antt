use Rattle.pr_recording.proofs.listening.command_if.Goals as goal

pub returns-else-comes-clause-taken : goal.returns-else-comes-clause-taken
returns-else-comes-clause-taken g c = rw c.if-comes.false (g.met.T.Takes.takes_none c.args.taker.now)

pub returns-else-comes-clause-room : goal.returns-else-comes-clause-room
returns-else-comes-clause-room g c = λ n h. g.met.T.Takes.takes_fewer 1 n c.args.taker.now h
