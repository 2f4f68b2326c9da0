use Rattle.pr_jobs.specs.Report.{edges_checked}
use Rattle.pr_jobs.proofs.ReporterLemmas.{if_ok}
use Rattle.pr_jobs.proofs.trace_reporter.TraceReporter.finish.Goals as goal

pub returns : goal.returns
returns c = if_ok c.finish.result _ _ c.finish.ensures (λ text ends source report edges h. ends report (edges_checked source edges) h.reported)
