use Rattle.pr_render.proofs.Drawn.{discs-dots}
use Rattle.pr_render.proofs.Farther.{discs-lowered}
use Rattle.pr_render.proofs.laws.discs_are_the_dots.Goals as goal

pub returns-clause-dots : goal.returns-clause-dots
returns-clause-dots c = discs-dots

pub returns-clause-lowered : goal.returns-clause-lowered
returns-clause-lowered c = discs-lowered
