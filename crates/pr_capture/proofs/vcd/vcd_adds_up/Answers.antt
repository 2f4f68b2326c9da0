use Rattle.pr_capture.proofs.VcdAdding.{changes-append, last-append}
use Rattle.pr_capture.proofs.vcd.vcd_adds_up.Goals as goal

pub returns : goal.returns
returns c = record { changes = changes-append; last = last-append }
