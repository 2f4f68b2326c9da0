use Rattle.pr_run.proofs.RunLawLemmas.{runs_agree, runs_go_on}
use Rattle.pr_run.proofs.run_laws.limits_agree.Goals as goal

pub returns-clause-same : goal.returns-clause-same
returns-clause-same c = runs_agree

pub returns-clause-first : goal.returns-clause-first
returns-clause-first c = runs_go_on
