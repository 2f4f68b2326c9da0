use Rattle.std.proofs.Common.{refl}
use Rattle.pr_capture.proofs.CsvReading.{read-none}
use Rattle.pr_capture.proofs.csv.CsvReader.new.Goals as goal

pub returns-clause-read : goal.returns-clause-read
returns-clause-read c = read-none _ _ _ refl refl refl c.new.ensures.items
