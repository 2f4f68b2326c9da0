use Rattle.std.proofs.Common.{◌++◌, List, arith, subst, take}
use Rattle.std.proofs.lemmas.List.{take_all}
use Rattle.pr_wire.specs.declared.Edge.{Edge}
use Rattle.pr_jobs.specs.Reported.{HasCounted}
use Rattle.pr_jobs.proofs.ReportLemmas.{more_at}
use Rattle.pr_jobs.proofs.trace_reporter.TraceReporter.take_all.Goals as goal

pub loop-edge-preserved : goal.loop-edge-preserved
loop-edge-preserved c =
    let inv = c.loop-edge.invariant in
    let i = c.loop-edge.edge-index in
    record {
      counted = λ source report edges h.
          more_at (λ l. HasCounted source report l c.take.new.self) edges c.args.edges.now i _ c.loop-edge-test.true
          (c.in_ok-take.ensures.counted source report (edges ++ take i c.args.edges.now) (inv.counted source report edges h));
      count = omega (arith, inv.count, c.in_ok-take.ensures.count);
    }

pub returns-clause-counted : goal.returns-clause-counted
returns-clause-counted c = λ source report edges h.
    let all = take_all c.loop-edge.edge-index c.args.edges.now (omega (arith, c.loop-edge-test.false)) in
    let P : List Edge → Type 0 = λ l. HasCounted source report (edges ++ l) c.loop-edge.self in
    subst P all (c.loop-edge.invariant.counted source report edges h)
