use Rattle.std.proofs.Common.{length}
use Rattle.pr_explain.specs.OddLines.{ComesAfter}
use Rattle.pr_explain.proofs.OddLemmas.{LookedTo}
use Rattle.pr_explain.proofs.oddities.oddities_of.Given as goal

-- the edges so far were looked at, and those that are left are in order after them
abbrev pub invariant-loop-rest : goal.invariant-loop-rest
invariant-loop-rest l = record {
  looked : LookedTo l.fn.edges l.rest l.looked;
  order : ComesAfter l.looked.decoder l.rest;
}

abbrev pub decreases-loop-rest : goal.decreases-loop-rest
decreases-loop-rest l = length l.rest
