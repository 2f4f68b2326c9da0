use Rattle.pr_report.proofs.Lines.{lines-more}
use Rattle.pr_report.proofs.laws.lines_add_up.Goals as goal

pub returns : goal.returns
returns c = lines-more
