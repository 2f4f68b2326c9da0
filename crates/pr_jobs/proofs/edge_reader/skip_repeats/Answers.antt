use Rattle.pr_jobs.proofs.InputLemmas.{skips_front}
use Rattle.pr_jobs.proofs.edge_reader.skip_repeats.Goals as goal

pub returns-clause-known : goal.returns-clause-known
returns-clause-known c =
    skips_front _ c.in-Some-take_repeats.last c.args.reader.now c.take_repeats.new.self c.args.maker.now c.skip.new.self c.in-Some-take_repeats.ensures.given c.skip.ensures
