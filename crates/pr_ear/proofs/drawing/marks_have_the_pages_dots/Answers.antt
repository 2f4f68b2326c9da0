use Rattle.pr_ear.proofs.Inked.{page-dots}
use Rattle.pr_ear.proofs.drawing.marks_have_the_pages_dots.Goals as goal

pub returns : goal.returns
returns c = page-dots
