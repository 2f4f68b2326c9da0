use Rattle.pr_explain.proofs.FirstLines.{first_counted}
use Rattle.pr_explain.proofs.lines.first_line.Goals as goal

pub returns-clause-count : goal.returns-clause-count
returns-clause-count c = first_counted _ _ _ _ (c.alone.ensures _ _ c.cut_line.ensures.lines) c.in_ok-count.ensures
