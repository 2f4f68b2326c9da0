use Rattle.std.proofs.Common.{◌≡◌}
use Rattle.pr_capture.specs.Numbers.{with_zeros}
use Rattle.pr_capture.proofs.numbers.with_zeros.Given as goal

-- this many zeros are left to come
abbrev pub decreases-loop-left : goal.decreases-loop-left
decreases-loop-left l = l.left

-- the zeros left lead to the number
abbrev pub invariant-loop-left : goal.invariant-loop-left
invariant-loop-left l = with_zeros l.left l.number ≡ with_zeros l.count l.front
