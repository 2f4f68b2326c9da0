use Rattle.pr_jobs.proofs.EdgeLemmas.{makes_all}
use Rattle.pr_jobs.proofs.edge_maker.EdgeMaker.finish.Goals as goal

pub returns-clause-all : goal.returns-clause-all
returns-clause-all c =
    makes_all c.args.self c.find_last-last.result c.in_ok-known.known c.steady.new.filter c.args.edges.now.items c.push_known.new.edges.items c.steady_last.new.edges.items
    c.find_last-last.ensures c.in_ok-known.ensures c.in_ok-push_known.ensures c.in_ok-steady_last.ensures.all
