use Rattle.std.proofs.Common.{◌≡◌, drop}
use Rattle.pr_pdf.specs.Linked.{ascend}
use Rattle.pr_pdf.proofs.sheets.are_ascending.Given as goal

abbrev pub invariant-loop-row : goal.invariant-loop-row
invariant-loop-row l = ascend l.y (drop l.row-index l.rows) ≡ ascend 0 l.rows
