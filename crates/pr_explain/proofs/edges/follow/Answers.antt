use Rattle.std.proofs.Common.{arith, ap, length, subst}
use Rattle.pr_wire.specs.Following.{frames_with}
use Rattle.pr_explain.specs.Followed.{HasFront}
use Rattle.pr_explain.proofs.EdgeLemmas.{follows_to, front_more, split_front}
use Rattle.pr_explain.proofs.edges.follow.Goals as goal

pub loop-rest-preserved : goal.loop-rest-preserved
loop-rest-preserved c =
    let is = split_front c.loop-rest.rest.now _ c.in-len1-up.len_at_least in
    record {
      front =
          front_more _ _ _ c.loop-rest.follower c.take.new.self _ (subst (λ l. HasFront c.args.edges.now l c.loop-rest.follower) is c.loop-rest.invariant.front)
          c.in-Ok.ensures.accepted c.in-Ok.ensures.works.1;
      count = omega (arith, c.in-Ok.ensures.count, ap length is, c.loop-rest.invariant.count);
    }

pub returns-in-Err : goal.returns-in-Err
returns-in-Err c =
    let is = split_front c.loop-rest.rest.now _ c.in-len1-up.len_at_least in
    follows_to c.args.edges.now c.loop-rest.rest.now _ _ c.loop-rest.follower c.take.new.self c.in-Err.fault c.allowed_traces.ensures.allowed is c.loop-rest.invariant.front c.loop-rest.invariant.count c.in-Err.ensures.fault
    (λ es fs h. (frames_with fs c.take.result, c.take.ensures.followed es fs h)) c.in-Err.ensures.refuses
