use Rattle.std.proofs.Common.{◌≡◌, ◌++◌, length}
use Rattle.pr_render.specs.Svg.{no_strip, strips_svg}
use Rattle.pr_render.proofs.letters.push_letters.Given as goal

-- the text so far and that of what is left make the whole
abbrev pub invariant-loop-rest : goal.invariant-loop-rest
invariant-loop-rest l = l.text.items ++ strips_svg no_strip l.rest ≡ l.fn.text.items ++ strips_svg no_strip l.marks

abbrev pub decreases-loop-rest : goal.decreases-loop-rest
decreases-loop-rest l = length l.rest
