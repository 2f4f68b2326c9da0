use Rattle.std.proofs.Common.{◌≡◌, ◌+◌, length, None}
use Rattle.pr_explain.specs.Followed.{back_from}
use Rattle.pr_explain.proofs.traces.find_back.Given as goal

-- the first edge with which time goes back is that of what is left
abbrev pub invariant-loop-rest : goal.invariant-loop-rest
invariant-loop-rest l = record {
  back : back_from 0 None l.fn.edges ≡ back_from l.index l.last l.rest;
  count : l.index + length l.rest ≡ length l.fn.edges;
}

abbrev pub decreases-loop-rest : goal.decreases-loop-rest
decreases-loop-rest l = length l.rest
