use Rattle.std.proofs.Common.{◌≡◌, ◌++◌, length}
use Rattle.std.specs.Prelude.{flat_map}
use Rattle.pr_render.specs.Svg.{use_svg}
use Rattle.pr_render.proofs.uses.push_uses.Given as goal

-- the text so far and that of what is left make the whole
abbrev pub invariant-loop-rest : goal.invariant-loop-rest
invariant-loop-rest l = l.text.items ++ flat_map use_svg l.rest ≡ l.fn.text.items ++ flat_map use_svg l.marks

abbrev pub decreases-loop-rest : goal.decreases-loop-rest
decreases-loop-rest l = length l.rest
