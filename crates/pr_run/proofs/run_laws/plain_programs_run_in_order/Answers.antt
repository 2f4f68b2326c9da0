use Rattle.pr_run.proofs.PlainLemmas.{plain_runs}
use Rattle.pr_run.proofs.run_laws.plain_programs_run_in_order.Goals as goal

pub returns : goal.returns
returns c = plain_runs
