use Rattle.std.proofs.Common.{◌≡◌, ◌≤◌, drop, max}
use Rattle.pr_dots.specs.Sheets.{lowered_rows, sheet_count}
use Rattle.pr_dots.proofs.sheets.sheet_count.Given as goal

abbrev pub invariant-loop-row : goal.invariant-loop-row
invariant-loop-row l = record {
  count : max l.count (sheet_count (lowered_rows l.top (drop l.row-index l.rows))) ≡ sheet_count (lowered_rows l.top l.rows);
  within : l.count ≤ 18014398509481984;
}
