use Rattle.pr_jobs.specs.Reported.{CountsMore}
use Rattle.pr_jobs.proofs.ReportLemmas.{counts_more}
use Rattle.pr_jobs.proofs.ReporterLemmas.{on_ok}
use Rattle.pr_jobs.specs.declared.trace_reporter.TraceReporter.{TraceReporter}
use Rattle.pr_jobs.proofs.trace_reporter.TraceReporter.take.Goals as goal

pub returns-clause-counted : goal.returns-clause-counted
returns-clause-counted c =
    let new : TraceReporter = record { beginning = c.count-counted.new.self; frames = c.take.new.self } in
    on_ok c.take.result _ (CountsMore _ c.args.self.now new) c.take.ensures.reported
    (λ more. counts_more c.args.edge c.count-counted.result c.args.self.now new c.count-counted.ensures more)
