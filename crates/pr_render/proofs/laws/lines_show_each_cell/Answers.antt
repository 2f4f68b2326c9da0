use Rattle.pr_render.proofs.Shown.{cell-shown, wide-shown}
use Rattle.pr_render.proofs.laws.lines_show_each_cell.Goals as goal

pub returns-clause-cells : goal.returns-clause-cells
returns-clause-cells c = cell-shown

pub returns-clause-wide : goal.returns-clause-wide
returns-clause-wide c = wide-shown
