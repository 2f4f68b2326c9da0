use Rattle.std.proofs.Common.{refl}
use Rattle.pr_wire.proofs.ReadLaws.{read_nothing}
use Rattle.pr_wire.proofs.reader.TraceReader.new.Goals as goal

pub returns-clause-read : goal.returns-clause-read
returns-clause-read c = read_nothing _ refl refl
