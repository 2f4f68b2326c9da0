use Rattle.pr_capture.proofs.VcdReadBack.{read-edges, read-sound}
use Rattle.pr_capture.proofs.vcd_reader.vcd_is_read_back.Goals as goal

pub returns : goal.returns
returns c = record { sound = read-sound; edges = read-edges }
