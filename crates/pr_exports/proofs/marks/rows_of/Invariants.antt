use Rattle.std.proofs.Common.{◌≡◌, ◌++◌, [], drop}
use Rattle.pr_exports.specs.MarkSteps.{rows_after}
use Rattle.pr_exports.proofs.marks.rows_of.Given as goal

-- the rows so far, and those of the row begun and the marks that are left
abbrev pub invariant-loop-mark : goal.invariant-loop-mark
invariant-loop-mark l = l.rows.items ++ rows_after l.y l.placed.items (drop l.mark-index l.marks)
    ≡ rows_after 0 [] l.marks
