use Rattle.std.proofs.Common.{◌≡◌, drop, map}
use Rattle.pr_ear.specs.Drawing.{dots_of_marks}
use Rattle.pr_ear.specs.Inking.{inked_dots}
use Rattle.pr_ear.specs.MarkNumbers.{mark_by}
use Rattle.pr_ear.proofs.drawing.ink_marks.Given as goal

-- the bitmap so far with the marks that are left is the bitmap with all marks
abbrev pub invariant-loop-mark : goal.invariant-loop-mark
invariant-loop-mark l =
    inked_dots l.region (dots_of_marks l.shapes (map mark_by (drop l.mark-index l.marks))) l.out
    ≡ inked_dots l.region (dots_of_marks l.shapes (map mark_by l.marks)) l.fn.out
