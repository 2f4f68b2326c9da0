use Rattle.std.proofs.Common.{◌≡◌, ◌+◌, drop}
use Rattle.pr_dots.specs.Dots.{columns_dots, columns_of}
use Rattle.pr_png.specs.Marking.{marked}
use Rattle.pr_png.proofs.marking.mark_placed.Given as goal

-- the picture so far with the columns that are left is the picture with the mark
abbrev pub invariant-loop-value : goal.invariant-loop-value
invariant-loop-value l = record {
  dark : marked l.extent (columns_dots l.x l.y (drop l.value-index (columns_of l.shapes l.fn.placed.mark))) l.dark
      ≡ marked l.extent (columns_dots l.fn.placed.x l.y (columns_of l.shapes l.fn.placed.mark)) l.fn.dark;
  x : l.x ≡ l.fn.placed.x + l.value-index;
}
