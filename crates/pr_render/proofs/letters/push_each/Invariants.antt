use Rattle.std.proofs.Common.{◌≡◌, ◌++◌, length}
use Rattle.pr_render.specs.Tables.{letters_of}
use Rattle.pr_render.proofs.letters.push_each.Given as goal

-- the text so far and that of what is left make the whole
abbrev pub invariant-loop-rest : goal.invariant-loop-rest
invariant-loop-rest l = l.text.items ++ letters_of l.rest ≡ l.fn.text.items ++ letters_of l.marks

abbrev pub decreases-loop-rest : goal.decreases-loop-rest
decreases-loop-rest l = length l.rest
