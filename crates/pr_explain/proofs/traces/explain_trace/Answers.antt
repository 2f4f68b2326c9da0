use Rattle.std.proofs.Common.{◌∙◌, ap}
use Rattle.pr_jobs.specs.Report.{edges_checked}
use Rattle.pr_explain.proofs.EdgeLemmas.{trace_place}
use Rattle.pr_explain.proofs.traces.explain_trace.Goals as goal

pub returns-clause-place : goal.returns-clause-place
returns-clause-place c =
    let source = c.args.input.source in
    trace_place c.args.input c.args.trace.now c.as_slice-edges.result.now c.in_ok-said.said.edges.items c.in_ok-said.said.fault _ c.follow-followed.result c.in_ok-said.ensures.says
    (c.as_slice-edges.ensures.value ∙ (c.in_ok-counted.ensures ∙ ap (edges_checked source) c.as_slice-2.ensures.value)) c.follow-followed.ensures
    c.place_of-place.ensures
