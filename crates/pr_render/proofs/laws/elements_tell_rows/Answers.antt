use Rattle.pr_render.proofs.Told.{rows-tell}
use Rattle.pr_render.proofs.laws.elements_tell_rows.Goals as goal

pub returns : goal.returns
returns c = rows-tell
