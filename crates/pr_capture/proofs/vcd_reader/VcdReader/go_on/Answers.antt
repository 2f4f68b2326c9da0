use Rattle.std.proofs.Common.{refl}
use Rattle.pr_capture.proofs.VcdTelling.{held-more}
use Rattle.pr_capture.proofs.vcd_reader.VcdReader.go_on.Goals as goal

pub returns-clause-read : goal.returns-clause-read
returns-clause-read c = held-more c.args.self.now _ c.args.bytes.now refl refl refl c.in_ok-extend_from_slice.ensures.items c.requires
