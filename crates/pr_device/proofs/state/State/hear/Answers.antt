use Rattle.pr_device.proofs.Stepping.{hears-nothing}
use Rattle.pr_device.proofs.state.State.hear.Goals as goal

pub returns-in-None-clause-hears : goal.returns-in-None-clause-hears
returns-in-None-clause-hears c = rw c.in-None.is (hears-nothing c.args.self.now)
