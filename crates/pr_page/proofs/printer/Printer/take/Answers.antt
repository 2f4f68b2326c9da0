use Rattle.pr_page.proofs.Refines.{on_ok, HasTaken-push, HasTaken-same}
use Rattle.pr_page.proofs.printer.Printer.take.Goals as goal

pub returns-clause-ok : goal.returns-clause-ok
returns-clause-ok c =
    on_ok c.take.result
    (λ stepped inputs after. HasTaken-push inputs c.self.inside.state c.args.input c.take.new.self (HasTaken-same inputs _ _ c.self.view_is after) stepped)
    c.take.ensures.ok
