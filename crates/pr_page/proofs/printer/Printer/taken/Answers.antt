use Rattle.std.proofs.Common.{arith}
use Rattle.pr_page.proofs.Refines.{HasTaken-taken, HasTaken-same}
use Rattle.pr_page.proofs.printer.Printer.taken.Goals as goal

pub returns-clause-inputs : goal.returns-clause-inputs
returns-clause-inputs c = λ inputs after.
    omega (arith, HasTaken-taken inputs c.self.inside.state (HasTaken-same inputs _ _ c.self.view_is after))
