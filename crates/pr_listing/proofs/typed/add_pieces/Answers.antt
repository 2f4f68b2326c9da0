use Rattle.std.proofs.Common.{arith}
use Rattle.pr_listing.proofs.PieceLemmas.{taken-one_more}
use Rattle.pr_listing.proofs.typed.add_pieces.Goals as goal

pub loop-rest-preserved : goal.loop-rest-preserved
loop-rest-preserved c = record {
  taken = taken-one_more _ _ _ _ _ _ _ _ _ c.loop-rest.invariant.taken c.in-Ok.ensures.0;
  within = omega (arith, c.loop-rest.invariant.within, c.in-Ok.ensures.1);
}
