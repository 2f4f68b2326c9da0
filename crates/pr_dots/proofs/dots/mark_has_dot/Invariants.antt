use Rattle.std.proofs.Common.{◌≡◌, ◌+◌, drop}
use Rattle.std.specs.Prelude.{◌||◌}
use Rattle.std.specs.List.{list_any}
use Rattle.pr_dots.specs.Dots.{columns_dots, columns_of, is_at}
use Rattle.pr_dots.proofs.dots.mark_has_dot.Given as goal

-- what was found, or is in the columns that are left, is what the mark has
abbrev pub invariant-loop-value : goal.invariant-loop-value
invariant-loop-value l = record {
  found : (l.found || list_any (is_at l.x l.y) (columns_dots l.column l.top (drop l.value-index (columns_of l.shapes l.fn.placed.mark))))
      ≡ list_any (is_at l.x l.y) (columns_dots l.fn.placed.x l.top (columns_of l.shapes l.fn.placed.mark));
  column : l.column ≡ l.fn.placed.x + l.value-index;
}
