use Rattle.std.proofs.Common.{◌≡◌}
use Rattle.std.specs.Prelude.{flat_map}
use Rattle.std.specs.List.{range_with_len}
use Rattle.pr_dots.specs.Dots.{bit_dots}
use Rattle.pr_png.specs.Marking.{marked}
use Rattle.pr_png.proofs.marking.mark_column.Given as goal

-- the bits so far are put on the picture
abbrev pub invariant-loop-bit : goal.invariant-loop-bit
invariant-loop-bit l = l.dark ≡ marked l.extent (flat_map (bit_dots l.x l.y l.value) (range_with_len 0 l.bit)) l.fn.dark
