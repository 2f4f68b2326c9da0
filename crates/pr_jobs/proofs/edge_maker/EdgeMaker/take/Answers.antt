use Rattle.pr_jobs.specs.declared.edge_maker.EdgeMaker.{EdgeMaker}
use Rattle.pr_jobs.proofs.EdgeLemmas.{makes_more}
use Rattle.pr_jobs.proofs.edge_maker.EdgeMaker.take.Goals as goal

pub returns : goal.returns
returns c =
    let new : EdgeMaker = record { detector = c.find-found.new.detector; filter = c.steady.new.filter } in
    makes_more c.args.sample c.find-found.result c.in_ok-known.known c.args.self.now new c.find-found.ensures c.in_ok-known.ensures
