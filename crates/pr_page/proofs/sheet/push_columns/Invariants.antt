use Rattle.std.proofs.Common.{◌≡◌, ◌++◌, length}
use Rattle.pr_page.specs.Steps.{columns_from}
use Rattle.pr_page.proofs.sheet.push_columns.Given as goal

abbrev pub invariant-loop-i : goal.invariant-loop-i
invariant-loop-i l = record {
  added : l.marks ≡ l.initial.marks ++ columns_from l.x l.dots l.i;
  before : l.before ≡ length l.initial.marks;
}
