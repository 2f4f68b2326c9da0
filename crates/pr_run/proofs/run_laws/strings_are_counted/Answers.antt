use Rattle.pr_run.proofs.CountedLemmas.{strings_counted}
use Rattle.pr_run.proofs.run_laws.strings_are_counted.Goals as goal

pub returns : goal.returns
returns c = strings_counted
