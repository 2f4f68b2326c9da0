use Rattle.std.proofs.Common.{arith}
use Rattle.pr_run.proofs.CountLemmas.{count_goes, count_over}
use Rattle.pr_run.proofs.assignments.element_count.Goals as goal

pub returns-then-count-gt30000-clause-value : goal.returns-then-count-gt30000-clause-value
returns-then-count-gt30000-clause-value c =
    count_over c.args.bounds.now c.loop-bound.bound-index c.from.result c.loop-bound.count _ c.loop-bound-test.true
    c.from.ensures c.loop-bound.invariant.whole c.if-count-gt30000.true

pub loop-bound-preserved : goal.loop-bound-preserved
loop-bound-preserved c = record {
  whole =
      count_goes c.args.bounds.now c.loop-bound.bound-index c.from.result c.loop-bound.count _ c.loop-bound-test.true
      c.from.ensures c.loop-bound.invariant.whole;
  few = omega arith;
}
