use Rattle.pr_jobs.proofs.ReporterLemmas.{report_ends}
use Rattle.pr_jobs.proofs.reporter.FrameReporter.finish.Goals as goal

pub returns : goal.returns
returns c = λ report edges h.
    report_ends c.lawful_traces.ensures.faultless c.frames_are_told.ensures.spelled report edges c.args.self c.args.own c.edge_fault.result _ c.edge_fault.ensures c.refusal-refused.ensures c.in_ok-lines.ensures h
