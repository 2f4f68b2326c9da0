use Rattle.std.proofs.Common.{◌≡◌, ◌+◌, ◌++◌, ◌≤◌, drop, length}
use Rattle.pr_dots.specs.Dots.{columns_of}
use Rattle.pr_exports.specs.Characters.{columns_at}
use Rattle.pr_exports.specs.Marks.{mark_by}
use Rattle.pr_exports.proofs.characters.drawn_by.Given as goal

-- the columns so far, and those that are left
abbrev pub invariant-loop-column : goal.invariant-loop-column
invariant-loop-column l = record {
  drawn : l.drawn.items ++ columns_at l.mark.y l.x (drop l.column-index (columns_of l.shapes (mark_by l.mark)))
      ≡ columns_at l.mark.y l.mark.x (columns_of l.shapes (mark_by l.mark));
  x : l.x ≡ l.mark.x + l.column-index;
  few : length l.drawn.items ≤ l.column-index;
}
