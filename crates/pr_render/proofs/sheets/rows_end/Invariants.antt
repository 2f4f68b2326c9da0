use Rattle.std.proofs.Common.{◌≡◌, ◌≤◌, drop}
use Rattle.pr_render.specs.Svg.{rows_end}
use Rattle.pr_render.proofs.sheets.rows_end.Given as goal

abbrev pub invariant-loop-row : goal.invariant-loop-row
invariant-loop-row l = record {
  end : rows_end l.end (drop l.row-index l.rows) ≡ rows_end 0 l.rows;
  within : l.end ≤ 18446744073709551636;
}
