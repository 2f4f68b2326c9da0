use Rattle.pr_jobs.proofs.InputLemmas.{ends_faulty, ends_well}
use Rattle.pr_jobs.proofs.edge_reader.end_source.Goals as goal

pub returns-in_ok-finish-in-Ok-clause-says : goal.returns-in_ok-finish-in-Ok-clause-says
returns-in_ok-finish-in-Ok-clause-says c =
    ends_well c.args.reader c.args.maker c.push_sample.new.maker c.args.edges.now.items _ _ c.in-Ok.sample c.in-Ok.ensures c.in_ok-push_sample-in-Ok.ensures.known c.in_ok-finish-in-Ok.ensures.all

pub returns-in_ok-finish-in-Err-clause-says : goal.returns-in_ok-finish-in-Err-clause-says
returns-in_ok-finish-in-Err-clause-says c =
    ends_faulty c.args.reader c.args.maker c.args.edges.now.items _ c.in-Err.fault c.in_ok-own-in-Err.own c.in_ok-own-in-Err.ensures.same c.in_ok-own-in-Err.ensures.own c.in-Err.ensures c.in_ok-finish-in-Err.ensures.all
