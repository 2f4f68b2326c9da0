use Rattle.pr_png.proofs.Apart.{tell-dots}
use Rattle.pr_png.proofs.laws.pixels_tell_dots.Goals as goal

pub returns : goal.returns
returns c = tell-dots
