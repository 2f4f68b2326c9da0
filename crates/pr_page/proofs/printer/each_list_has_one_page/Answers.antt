use Rattle.pr_page.specs.Evaluator.{page_of}
use Rattle.pr_page.proofs.Refines.{page_of-page}
use Rattle.pr_page.proofs.Unique.{IsPage-unique}
use Rattle.pr_page.proofs.printer.each_list_has_one_page.Goals as goal

pub returns-clause-page : goal.returns-clause-page
returns-clause-page c = page_of-page

pub returns-clause-only : goal.returns-clause-only
returns-clause-only c = λ inputs paper h. IsPage-unique inputs paper (page_of inputs) h (page_of-page inputs)
