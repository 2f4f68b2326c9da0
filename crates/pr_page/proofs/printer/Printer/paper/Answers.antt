use Rattle.pr_page.proofs.Refines.{HasTaken-page, HasTaken-value, HasTaken-same}
use Rattle.pr_page.proofs.printer.Printer.paper.Goals as goal

pub returns-clause-page : goal.returns-clause-page
returns-clause-page c = λ inputs after. HasTaken-page inputs c.self.inside.state (HasTaken-same inputs _ _ c.self.view_is after)

pub returns-clause-value : goal.returns-clause-value
returns-clause-value c = λ inputs after. HasTaken-value inputs c.self.inside.state (HasTaken-same inputs _ _ c.self.view_is after)
