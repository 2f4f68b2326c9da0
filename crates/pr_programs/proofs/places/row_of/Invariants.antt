use Rattle.std.proofs.Common.{◌≡◌, ◌+◌, ◌≤◌, drop, false}
use Rattle.pr_programs.specs.Rows.{row_ends}
use Rattle.pr_programs.proofs.places.row_of.Given as goal

-- the rows so far and those that are left are all
abbrev pub invariant-loop-b : goal.invariant-loop-b
invariant-loop-b l = record {
  rows : row_ends false l.front + 1 ≡ l.row + row_ends l.after_return (drop l.b-index l.front);
  few : l.row ≤ l.b-index + 1;
}
