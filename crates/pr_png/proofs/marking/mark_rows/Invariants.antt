use Rattle.std.proofs.Common.{◌≡◌, drop}
use Rattle.std.specs.Prelude.{flat_map}
use Rattle.pr_dots.specs.Dots.{row_dots}
use Rattle.pr_dots.specs.Sheets.{lowered_rows}
use Rattle.pr_png.specs.Marking.{marked}
use Rattle.pr_png.proofs.marking.mark_rows.Given as goal

-- the picture so far with the rows that are left is the picture with all rows
abbrev pub invariant-loop-row : goal.invariant-loop-row
invariant-loop-row l =
    marked l.extent (flat_map (row_dots l.shapes) (lowered_rows l.above (drop l.row-index l.rows))) l.dark
    ≡ marked l.extent (flat_map (row_dots l.shapes) (lowered_rows l.above l.rows)) l.fn.dark
