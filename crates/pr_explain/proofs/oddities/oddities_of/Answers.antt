use Rattle.std.proofs.Common.{subst, sym}
use Rattle.pr_explain.specs.OddLines.{AreInOrderAfter, ComesAfter}
use Rattle.pr_explain.proofs.EdgeLemmas.{split_front}
use Rattle.pr_explain.proofs.OddLemmas.{LookedTo, looked_more, looked_none}
use Rattle.pr_explain.proofs.oddities.oddities_of.Goals as goal

pub loop-rest-init : goal.loop-rest-init
loop-rest-init c = record {
  looked = looked_none c.args.edges.now c.new-looked.result c.new-looked.ensures.looked;
  order = subst (λ t. AreInOrderAfter t c.args.edges.now) (sym c.new-looked.ensures.first) c.requires.order;
}

pub loop-rest-preserved : goal.loop-rest-preserved
loop-rest-preserved c =
    let is = split_front c.loop-rest.rest.now _ c.in-len1-up.len_at_least in
    record {
      looked = looked_more _ _ _ c.loop-rest.looked c.take.new.self (subst (λ l. LookedTo c.args.edges.now l c.loop-rest.looked) is c.loop-rest.invariant.looked) c.take.ensures.looked;
      order = c.take.ensures.last _ (subst (λ l. ComesAfter c.loop-rest.looked.decoder l) is c.loop-rest.invariant.order);
    }
