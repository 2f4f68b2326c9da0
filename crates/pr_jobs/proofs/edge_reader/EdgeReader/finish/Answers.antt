use Rattle.pr_jobs.specs.declared.edge_reader.LastEdges.{LastEdges}
use Rattle.pr_jobs.proofs.InputLemmas.{says_open, says_refused}
use Rattle.pr_jobs.proofs.edge_reader.EdgeReader.finish.Goals as goal

pub returns-in_ok-finish-in-Some-clause-says : goal.returns-in_ok-finish-in-Some-clause-says
returns-in_ok-finish-in-Some-clause-says c =
    let last : LastEdges = record { edges = c.finish.new.edges; fault = c.args.self.fault } in
    says_refused c.args.self c.in-Some.field-0 last c.in-Some.is c.in-Some.is c.in_ok-finish-in-Some.ensures.all

pub returns-in_ok-fault-in-None-clause-says : goal.returns-in_ok-fault-in-None-clause-says
returns-in_ok-fault-in-None-clause-says c =
    let last : LastEdges = record { edges = c.end_source.new.edges; fault = c.in_ok-fault-in-None.fault } in
    says_open c.args.self last c.in-None.is c.in_ok-fault-in-None.ensures.says
