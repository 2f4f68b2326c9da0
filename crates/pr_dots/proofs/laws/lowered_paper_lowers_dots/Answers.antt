use Rattle.pr_dots.proofs.Lowering.{lowers-dots}
use Rattle.pr_dots.proofs.laws.lowered_paper_lowers_dots.Goals as goal

pub returns : goal.returns
returns c = lowers-dots
