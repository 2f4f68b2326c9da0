use Rattle.std.proofs.Common.{◌≡◌, ◌+◌, length}
use Rattle.pr_explain.specs.Followed.{HasFront}
use Rattle.pr_explain.proofs.edges.follow.Given as goal

-- the edges so far were accepted
abbrev pub invariant-loop-rest : goal.invariant-loop-rest
invariant-loop-rest l = record {
  front : HasFront l.fn.edges l.rest l.follower;
  count : l.follower.taken + length l.rest ≡ length l.fn.edges;
}

abbrev pub decreases-loop-rest : goal.decreases-loop-rest
decreases-loop-rest l = length l.rest
