use Rattle.pr_report.proofs.Middle.{middle-least}
use Rattle.pr_report.proofs.laws.middles_are_least.Goals as goal

pub returns : goal.returns
returns c = middle-least
