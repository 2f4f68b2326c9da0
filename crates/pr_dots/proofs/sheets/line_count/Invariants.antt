use Rattle.std.proofs.Common.{◌≡◌, ◌≤◌, drop, max}
use Rattle.pr_dots.specs.Sheets.{line_count, lowered_rows}
use Rattle.pr_dots.proofs.sheets.line_count.Given as goal

abbrev pub invariant-loop-row : goal.invariant-loop-row
invariant-loop-row l = record {
  count : max l.count (line_count (lowered_rows l.top (drop l.row-index l.rows))) ≡ line_count (lowered_rows l.top l.rows);
  within : l.count ≤ 878416384462359857;
}
