use Rattle.pr_ear.proofs.Receivers.{what-is-heard, what-is-printed}
use Rattle.pr_ear.proofs.receiving.receivers_hear_what_is_printed.Goals as goal

pub returns-clause-printed : goal.returns-clause-printed
returns-clause-printed c = what-is-printed

pub returns-clause-lawful : goal.returns-clause-lawful
returns-clause-lawful c = what-is-heard c.traces_are_read.ensures.acknowledged
