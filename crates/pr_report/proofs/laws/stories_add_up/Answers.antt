use Rattle.pr_report.proofs.Spelled.{more-edges}
use Rattle.pr_report.proofs.laws.stories_add_up.Goals as goal

pub returns : goal.returns
returns c = record { more = more-edges }
