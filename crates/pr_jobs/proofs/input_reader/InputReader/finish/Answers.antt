use Rattle.pr_jobs.proofs.InputLemmas.{inputs_end_on}
use Rattle.pr_jobs.proofs.input_reader.InputReader.finish.Goals as goal

pub returns-clause-ends : goal.returns-clause-ends
returns-clause-ends c = inputs_end_on c.args.self c.finish.result c.finish.ensures.fault c.finish.ensures.says
