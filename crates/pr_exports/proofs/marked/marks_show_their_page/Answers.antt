use Rattle.std.proofs.Common.{◌≡◌, Ok, subst}
use Rattle.pr_page.specs.declared.paper.Paper.{Paper}
use Rattle.pr_jobs.specs.Formats.{text_in}
use Rattle.pr_jobs.specs.Raw.{four_alone, printed_on}
use Rattle.pr_exports.specs.Marks.{without_blank}
use Rattle.pr_exports.proofs.MarkRows.{one_paper, their_page}
use Rattle.pr_exports.proofs.marked.marks_show_their_page.Goals as goal

pub returns : goal.returns
returns c = λ shapes format inputs page y marks text is none same shown.
    let P : Paper → Type 0 = λ paper. text_in shapes format four_alone (printed_on paper) ≡ Ok text in
    subst P (one_paper marks shown.paper (without_blank page) shown.has_marks
    (their_page inputs page y marks is none same)) shown.is_text
