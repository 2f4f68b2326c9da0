use Rattle.std.proofs.Common.{◌≡◌}
use Rattle.std.specs.Prelude.{flat_map}
use Rattle.std.specs.List.{range_with_len}
use Rattle.pr_dots.specs.Dots.{bit_dots}
use Rattle.pr_ear.specs.Inking.{inked_dots}
use Rattle.pr_ear.proofs.drawing.ink_column.Given as goal

-- the bits so far are drawn
abbrev pub invariant-loop-bit : goal.invariant-loop-bit
invariant-loop-bit l = l.out ≡ inked_dots l.region (flat_map (bit_dots l.x l.y l.value) (range_with_len 0 l.bit)) l.fn.out
