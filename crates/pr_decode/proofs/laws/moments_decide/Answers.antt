use Rattle.pr_decode.proofs.OutlinesRead.{outlines-decide}
use Rattle.pr_decode.proofs.laws.moments_decide.Goals as goal

pub returns : goal.returns
returns c = outlines-decide
