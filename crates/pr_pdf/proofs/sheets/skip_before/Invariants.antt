use Rattle.std.proofs.Common.{◌-◌, ◌≤◌, length}
use Rattle.pr_dots.specs.Sheets.{lowered_rows}
use Rattle.pr_pdf.specs.Linked.{IsSkipped}
use Rattle.pr_pdf.proofs.sheets.skip_before.Given as goal

abbrev pub invariant-loop-count : goal.invariant-loop-count
invariant-loop-count l = record {
  within : l.count ≤ length l.rows;
  before : IsSkipped l.sheet l.from (lowered_rows l.top l.rows) → IsSkipped l.sheet l.count (lowered_rows l.top l.rows);
}

abbrev pub decreases-loop-count : goal.decreases-loop-count
decreases-loop-count l = length l.rows - l.count
