use Rattle.std.proofs.Common.{arith}
use Rattle.pr_dots.specs.Sheets.{lowered_rows}
use Rattle.pr_pdf.proofs.SheetBySheet.{empty_adds, some_add}
use Rattle.pr_pdf.proofs.drawing.add_all_sheets.Goals as goal

pub returns-in_ok-add_sheet_of : goal.returns-in_ok-add_sheet_of
returns-in_ok-add_sheet_of c =
    empty_adds c.args.pages c.args.first c.in_ok-second.second (lowered_rows c.args.top c.args.rows4.now) (lowered_rows c.args.top c.args.rows5.now) c.in_ok-second.ensures.next
    (omega (arith, c.in_ok-second.ensures.next, c.in_ok-end.ensures.next))
    c.in_ok-second.ensures.sheets c.in_ok-end.ensures.sheets c.in_ok-add_sheet_of.ensures

pub returns-else-end-first : goal.returns-else-end-first
returns-else-end-first c =
    some_add c.args.pages c.args.first c.in_ok-second.second (lowered_rows c.args.top c.args.rows4.now) (lowered_rows c.args.top c.args.rows5.now) c.in_ok-second.ensures.next
    (omega (arith, c.in_ok-second.ensures.next, c.in_ok-end.ensures.next))
    c.in_ok-second.ensures.sheets c.in_ok-end.ensures.sheets
