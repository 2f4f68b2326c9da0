use Rattle.pr_device.proofs.Forward.{lawful-forward, timed-forward}
use Rattle.pr_device.proofs.laws.traces_go_forward.Goals as goal

pub returns-clause-lawful : goal.returns-clause-lawful
returns-clause-lawful c = lawful-forward

pub returns-clause-timed : goal.returns-clause-timed
returns-clause-timed c = timed-forward c.timed_traces_spell.ensures
