use Rattle.pr_dots.specs.Sheets.{lowered_rows, rows_on}
use Rattle.pr_render.specs.SheetSvg.{row_marks}
use Rattle.pr_render.proofs.Defining.{one-sheet}
use Rattle.pr_render.proofs.single.push_marks.Goals as goal

pub returns : goal.returns
returns c =
    one-sheet c.args.shapes.now c.args.text.now.items c.define_sheet.new.text.items c.in_ok-defined.defined c.define_sheet.new.self
    (row_marks (rows_on c.args.sheet (lowered_rows c.args.above c.args.rows.now))) c.in_ok-defined.ensures c.in_ok-define_sheet.ensures
