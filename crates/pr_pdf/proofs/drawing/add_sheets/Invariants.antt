use Rattle.std.proofs.Common.{◌≡◌, ◌+◌, ◌*◌, ◌≤◌, length}
use Rattle.std.specs.Prelude.{map}
use Rattle.pr_dots.specs.Sheets.{lowered_rows}
use Rattle.pr_pdf.specs.Linked.{Adds, IsSkipped}
use Rattle.pr_pdf.specs.Pdf.{sheet_bodies}
use Rattle.pr_pdf.specs.Sheets.{sheet_pdf}
use Rattle.pr_pdf.specs.Words.{numbers_from}
use Rattle.pr_pdf.proofs.drawing.add_sheets.Given as goal

abbrev pub invariant-loop-sheet : goal.invariant-loop-sheet
invariant-loop-sheet l = record {
  sheets : Adds (sheet_bodies l.pages l.first (map (sheet_pdf (lowered_rows l.top l.rows)) (numbers_from 0 l.sheet))) l.fn.document l.document;
  number : l.number ≡ l.first + 2 * l.sheet;
  within : l.before ≤ length l.rows;
  before : IsSkipped l.sheet l.before (lowered_rows l.top l.rows);
}
