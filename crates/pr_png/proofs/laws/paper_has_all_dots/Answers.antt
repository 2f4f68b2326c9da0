use Rattle.pr_png.proofs.Below.{all-dots}
use Rattle.pr_png.proofs.laws.paper_has_all_dots.Goals as goal

pub returns : goal.returns
returns c = all-dots
