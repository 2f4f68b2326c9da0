use Rattle.std.proofs.Common.{◌≡◌, drop}
use Rattle.pr_exports.specs.Marks.{first_up}
use Rattle.pr_exports.proofs.marks.first_up.Given as goal

-- none so far is above the one before it
abbrev pub invariant-loop-index : goal.invariant-loop-index
invariant-loop-index l = first_up l.index l.y (drop l.index l.marks) ≡ first_up 0 0 l.marks
