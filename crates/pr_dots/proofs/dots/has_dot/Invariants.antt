use Rattle.std.proofs.Common.{◌≡◌, drop}
use Rattle.std.specs.Prelude.{flat_map}
use Rattle.std.specs.List.{list_any}
use Rattle.pr_dots.specs.Dots.{is_at, row_dots}
use Rattle.pr_dots.proofs.dots.has_dot.Given as goal

-- the rows that are left have the dot exactly if the paper has it
abbrev pub invariant-loop-row : goal.invariant-loop-row
invariant-loop-row l =
    list_any (is_at l.x l.y) (flat_map (row_dots l.shapes) (drop l.row-index l.paper.rows)) ≡ list_any (is_at l.x l.y) (flat_map (row_dots l.shapes) l.paper.rows)
