use Rattle.pr_render.proofs.Names.{names-tell}
use Rattle.pr_render.proofs.laws.names_tell_marks.Goals as goal

pub returns : goal.returns
returns c = names-tell
