use Rattle.std.proofs.Common.{◌∙◌, ap, arith, refl, sym}
use Rattle.pr_dots.specs.Sheets.{lowered_rows}
use Rattle.pr_pdf.specs.Sheets.{sheet_pdf}
use Rattle.pr_pdf.proofs.SheetBySheet.{sheet_adds, sheet_adds_none, sheet_now}
use Rattle.pr_pdf.proofs.Sheeted.{ascend_drop, lowered_drop, skipped_later}
use Rattle.pr_pdf.proofs.drawing.add_sheets.Goals as goal

pub loop-sheet-init : goal.loop-sheet-init
loop-sheet-init c = record {
  sheets = sheet_adds_none c.args.pages c.args.first (sheet_pdf (lowered_rows c.args.top c.args.rows.now)) c.args.document.now;
  number = omega arith;
  within = omega arith;
  before = λ later from. refl;
}

pub add_sheet_of-requires-clause-ascending : goal.add_sheet_of-requires-clause-ascending
add_sheet_of-requires-clause-ascending c is =
    rw c.rows_from-rest.ensures (ascend_drop c.skip_before-before.result c.args.rows.now (sym c.are_ascending-ascending.ensures ∙ is))

pub loop-sheet-preserved : goal.loop-sheet-preserved
loop-sheet-preserved c =
    let skipped = c.skip_before-before.ensures.before c.loop-sheet.invariant.before in record {
      sheets = sheet_adds c.args.pages c.args.first c.loop-sheet.number (sheet_pdf (lowered_rows c.args.top c.args.rows.now)) c.loop-sheet.sheet c.loop-sheet.invariant.number c.loop-sheet.invariant.sheets
          (sheet_now c.args.pages c.loop-sheet.number c.loop-sheet.sheet c.skip_before-before.result (lowered_rows c.args.top c.args.rows.now) (lowered_rows c.args.top c.rows_from-rest.result.now)
          (ap (lowered_rows c.args.top) c.rows_from-rest.ensures ∙ sym (lowered_drop c.args.top c.skip_before-before.result c.args.rows.now)) skipped c.in_ok-add_sheet_of.ensures);
      number = omega arith;
      within = c.skip_before-before.ensures.within;
      before = skipped_later c.loop-sheet.sheet c.skip_before-before.result (lowered_rows c.args.top c.args.rows.now) skipped;
    }
