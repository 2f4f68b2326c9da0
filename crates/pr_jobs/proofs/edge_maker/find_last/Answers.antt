use Rattle.pr_jobs.proofs.EdgeLemmas.{finds_all, finds_same}
use Rattle.pr_jobs.proofs.edge_maker.find_last.Goals as goal

pub returns-in-Some : goal.returns-in-Some
returns-in-Some c = rw c.in-Some.is (finds_all c.in-Some.detector c.finish.result c.finish.ensures)

pub returns-in-None : goal.returns-in-None
returns-in-None c = rw c.in-None.is finds_same
