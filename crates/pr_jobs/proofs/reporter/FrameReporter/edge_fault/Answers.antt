use Rattle.pr_jobs.proofs.ReporterLemmas.{ended_faulty}
use Rattle.pr_jobs.proofs.reporter.FrameReporter.edge_fault.Goals as goal

pub returns-in-Some : goal.returns-in-Some
returns-in-Some c = ended_faulty c.args.self.now c.in-Some.fault c.in-Some.is
