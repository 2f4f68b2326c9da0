use Rattle.std.proofs.Common.{arith, length-drop}
use Rattle.std.proofs.lemmas.List.{take_rest}
use Rattle.pr_jobs.proofs.CheckLemmas.{tells_more}
use Rattle.pr_jobs.proofs.check.check_block.Goals as goal

pub loop-rest-preserved : goal.loop-rest-preserved
loop-rest-preserved c =
    let n = c.take_front-len.result.0 in
    let rest = c.loop-rest.rest.now in
    rw take_rest (record {
      told = tells_more _ rest _ _ _ _ _ _ n c.take_front-len.result.1 c.loop-rest.invariant.told c.in_ok-push_if_some.ensures c.take_front-len.ensures.checked;
      count = omega (arith, length-drop n rest, c.take_front-len.ensures.count, c.take_front-len.ensures.some, c.take_front-len.ensures.within, c.loop-rest.invariant.count);
    })
