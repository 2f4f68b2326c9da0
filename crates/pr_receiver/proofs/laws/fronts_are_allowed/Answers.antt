use Rattle.pr_receiver.proofs.Ended.{lawful-allowed, fronts-allowed}
use Rattle.pr_receiver.proofs.laws.fronts_are_allowed.Goals as goal

pub returns-clause-lawful : goal.returns-clause-lawful
returns-clause-lawful c = lawful-allowed c.allowed_traces.ensures.allowed c.allowed_traces.ensures.lawful

pub returns-clause-fronts : goal.returns-clause-fronts
returns-clause-fronts c = fronts-allowed c.allowed_traces.ensures.allowed
