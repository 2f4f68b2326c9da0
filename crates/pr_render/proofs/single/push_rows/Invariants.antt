use Rattle.std.proofs.Common.{◌≡◌, ◌++◌, drop}
use Rattle.std.specs.Prelude.{flat_map}
use Rattle.pr_dots.specs.Sheets.{lowered_rows, rows_on}
use Rattle.pr_render.specs.Svg.{row_svg}
use Rattle.pr_render.proofs.single.push_rows.Given as goal

-- the text so far and that of what is left make the whole
abbrev pub invariant-loop-row : goal.invariant-loop-row
invariant-loop-row l =
    l.text.items ++ flat_map row_svg (rows_on l.sheet (lowered_rows l.above (drop l.row-index l.rows)))
    ≡ l.fn.text.items ++ flat_map row_svg (rows_on l.sheet (lowered_rows l.above l.rows))
