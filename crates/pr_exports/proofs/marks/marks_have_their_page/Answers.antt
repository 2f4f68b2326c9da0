use Rattle.pr_exports.proofs.MarkRows.{a_paper, one_paper, their_page}
use Rattle.pr_exports.proofs.marks.marks_have_their_page.Goals as goal

pub returns-clause-page : goal.returns-clause-page
returns-clause-page c = their_page

pub returns-clause-some : goal.returns-clause-some
returns-clause-some c = a_paper

pub returns-clause-one : goal.returns-clause-one
returns-clause-one c = one_paper
