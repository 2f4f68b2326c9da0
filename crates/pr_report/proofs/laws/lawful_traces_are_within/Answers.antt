use Rattle.pr_report.proofs.Lawful.{lawful-within}
use Rattle.pr_report.proofs.laws.lawful_traces_are_within.Goals as goal

pub returns : goal.returns
returns c = lawful-within c.traces_are_read.ensures.moments
