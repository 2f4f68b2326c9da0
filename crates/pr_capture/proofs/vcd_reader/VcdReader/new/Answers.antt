use Rattle.std.proofs.Common.{refl}
use Rattle.pr_capture.proofs.VcdTelling.{read-none}
use Rattle.pr_capture.proofs.vcd_reader.VcdReader.new.Goals as goal

pub returns-clause-read : goal.returns-clause-read
returns-clause-read c = read-none _ _ refl refl c.new.ensures.items c.new-2.ensures.begun c.new-2.ensures.place
