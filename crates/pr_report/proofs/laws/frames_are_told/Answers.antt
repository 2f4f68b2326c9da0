use Rattle.pr_report.proofs.PiecesTold.{traces-moments}
use Rattle.pr_report.proofs.Spelled.{traces-told}
use Rattle.pr_report.proofs.laws.frames_are_told.Goals as goal

pub returns-clause-spelled : goal.returns-clause-spelled
returns-clause-spelled c = traces-told c.allowed_traces.ensures.spelled

pub returns-clause-moments : goal.returns-clause-moments
returns-clause-moments c = traces-moments
