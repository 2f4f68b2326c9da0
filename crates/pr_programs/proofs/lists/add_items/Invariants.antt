use Rattle.std.proofs.Common.{◌≡◌, ◌++◌, length}
use Rattle.pr_programs.specs.Scripts.{items_of, joined}
use Rattle.pr_programs.proofs.lists.add_items.Given as goal

-- the text so far and that of the bytes that are left are the whole
abbrev pub invariant-loop-rest : goal.invariant-loop-rest
invariant-loop-rest l = l.text.items ++ joined (items_of l.rest) ≡ l.initial.text.items ++ joined (items_of l.bytes)

abbrev pub decreases-loop-rest : goal.decreases-loop-rest
decreases-loop-rest l = length l.rest
