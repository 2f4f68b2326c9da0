use Rattle.std.proofs.Common.{Some, refl}
use Rattle.pr_jobs.specs.declared.edge_maker.EdgeMaker.{EdgeMaker}
use Rattle.pr_jobs.proofs.EdgeLemmas.{makes_none}
use Rattle.pr_jobs.proofs.edge_maker.EdgeMaker.skip.Goals as goal

pub returns-in-Some : goal.returns-in-Some
returns-in-Some c =
    let new : EdgeMaker = record { detector = Some c.skip.new.self; filter = c.args.self.now.filter } in
    makes_none c.args.last c.args.self.now new c.in-Some.detector c.skip.new.self c.in-Some.is refl refl c.skip.ensures
