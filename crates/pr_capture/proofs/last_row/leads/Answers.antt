use Rattle.pr_capture.proofs.CsvRepeats.{led}
use Rattle.pr_capture.proofs.last_row.leads.Goals as goal

pub returns-then-text-len-eq10-clause-front : goal.returns-then-text-len-eq10-clause-front
returns-then-text-len-eq10-clause-front c = led c.args.tail.now c.args.text.now c.are_same.result c.are_same.ensures c.if-len-text.true c.if-text-len-eq10.true
