use Rattle.std.proofs.Common.{◌≡◌, ◌+◌, drop}
use Rattle.pr_dots.specs.Dots.{columns_dots, columns_of}
use Rattle.pr_ear.specs.Inking.{inked_dots}
use Rattle.pr_ear.proofs.drawing.ink_mark.Given as goal

-- the bitmap so far with the columns that are left is the bitmap with the mark
abbrev pub invariant-loop-value : goal.invariant-loop-value
invariant-loop-value l = record {
  out : inked_dots l.region (columns_dots l.x l.fn.mark.y (drop l.value-index (columns_of l.shapes l.fn.mark.mark))) l.out
      ≡ inked_dots l.region (columns_dots l.fn.mark.x l.fn.mark.y (columns_of l.shapes l.fn.mark.mark)) l.fn.out;
  x : l.x ≡ l.fn.mark.x + l.value-index;
}
