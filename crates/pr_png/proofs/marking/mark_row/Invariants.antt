use Rattle.std.proofs.Common.{◌≡◌, ◌+◌, ◌*◌, drop}
use Rattle.std.specs.Prelude.{flat_map}
use Rattle.pr_dots.specs.Dots.{columns_dots, columns_of, row_dots}
use Rattle.pr_dots.specs.Sheets.{lowered_row}
use Rattle.pr_png.specs.Marking.{marked}
use Rattle.pr_png.proofs.marking.mark_row.Given as goal

-- the picture so far with the marks that are left is the picture with the row
abbrev pub invariant-loop-placed : goal.invariant-loop-placed
invariant-loop-placed l =
    marked l.extent (flat_map (λ p. columns_dots p.x (l.row.y + 21 * l.above) (columns_of l.shapes p.mark)) (drop l.placed-index l.row.marks)) l.dark
    ≡ marked l.extent (row_dots l.shapes (lowered_row l.above l.row)) l.fn.dark
