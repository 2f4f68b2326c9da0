use Rattle.std.proofs.Common.{◌∙◌, ap, arith}
use Rattle.std.proofs.lemmas.List.{take_all}
use Rattle.pr_jobs.specs.Report.{edges_checked}
use Rattle.pr_explain.proofs.InputLemmas.{counted_more}
use Rattle.pr_explain.proofs.input.counted.Goals as goal

pub loop-edge-preserved : goal.loop-edge-preserved
loop-edge-preserved c =
    let k = counted_more c.args.source c.args.edges.now c.loop-edge.edge-index _ c.count-next.result c.loop-edge.beginning c.count-next.new.self c.loop-edge.counted.items c.loop-edge-test.true c.loop-edge.invariant.begun c.loop-edge.invariant.counts c.count-next.ensures in
    record { begun = k.0; counts = c.in_ok-push.ensures.items ∙ k.1 }

pub returns : goal.returns
returns c = c.loop-edge.invariant.counts ∙ ap (edges_checked c.args.source) (take_all c.loop-edge.edge-index c.args.edges.now (omega (arith, c.loop-edge-test.false)))
