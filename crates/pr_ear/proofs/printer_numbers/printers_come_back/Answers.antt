use Rattle.pr_ear.proofs.Printers.{head-back}
use Rattle.pr_ear.proofs.printer_numbers.printers_come_back.Goals as goal

pub returns : goal.returns
returns c = head-back
