use Rattle.pr_jobs.proofs.EdgeLemmas.{made_first}
use Rattle.pr_jobs.proofs.edge_maker.made_edges_come_first.Goals as goal

pub returns : goal.returns
returns c = made_first c.given_edges_come_first.ensures c.steady_edges_come_first.ensures
