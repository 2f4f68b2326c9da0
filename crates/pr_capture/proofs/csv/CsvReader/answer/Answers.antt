use Rattle.std.proofs.Common.{refl}
use Rattle.pr_capture.proofs.CsvReading.{ended-first, ended-names, ended-rows}
use Rattle.pr_capture.proofs.csv.CsvReader.answer.Goals as goal

pub returns-in-First : goal.returns-in-First
returns-in-First c = (c.requires.names (rw c.in-First.is tt), ended-first c.args.self.now c.in-First.field-0 c.requires.whole c.in-First.is)

pub returns-in-Names : goal.returns-in-Names
returns-in-Names c = (c.requires.names (rw c.in-Names.is tt), ended-names c.args.self.now c.in-Names.field-0 c.requires.whole c.in-Names.is)

pub returns-in-Rows : goal.returns-in-Rows
returns-in-Rows c = (refl, ended-rows c.args.self.now c.in-Rows.field-0 c.in-Rows.field-1 c.requires.whole c.in-Rows.is)
