use Rattle.pr_jobs.proofs.EdgeLemmas.{finds_gathered, finds_kept}
use Rattle.pr_jobs.proofs.edge_maker.find.Goals as goal

pub returns-in-Some : goal.returns-in-Some
returns-in-Some c = rw c.in-Some.is (finds_gathered c.args.sample c.take.result c.in-Some.detector c.take.new.self c.take.ensures)

pub returns-in-None : goal.returns-in-None
returns-in-None c = rw c.in-None.is (finds_kept c.args.sample)
