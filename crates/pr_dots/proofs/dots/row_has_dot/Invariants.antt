use Rattle.std.proofs.Common.{◌≡◌, drop}
use Rattle.std.specs.Prelude.{flat_map}
use Rattle.std.specs.List.{list_any}
use Rattle.pr_dots.specs.Dots.{columns_dots, columns_of, is_at}
use Rattle.pr_dots.proofs.dots.row_has_dot.Given as goal

-- the marks that are left have the dot exactly if the row has it
abbrev pub invariant-loop-placed : goal.invariant-loop-placed
invariant-loop-placed l =
    list_any (is_at l.x l.y) (flat_map (λ p. columns_dots p.x l.row.y (columns_of l.shapes p.mark)) (drop l.placed-index l.row.marks))
    ≡ list_any (is_at l.x l.y) (flat_map (λ p. columns_dots p.x l.row.y (columns_of l.shapes p.mark)) l.row.marks)
