use Rattle.pr_render.proofs.Pictures.{pictures-tell}
use Rattle.pr_render.proofs.laws.pictures_tell_papers.Goals as goal

pub returns : goal.returns
returns c = pictures-tell
