use Rattle.pr_report.proofs.Stories.{lawful-told, usual-told}
use Rattle.pr_report.proofs.laws.lawful_traces_are_told.Goals as goal

pub returns-clause-told : goal.returns-clause-told
returns-clause-told c = lawful-told c.traces_are_read.ensures.moments c.frames_are_told.ensures.moments

pub returns-clause-usual : goal.returns-clause-usual
returns-clause-usual c = usual-told c.traces_are_read.ensures.moments c.frames_are_told.ensures.moments
