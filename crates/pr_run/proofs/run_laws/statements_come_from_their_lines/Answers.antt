use Rattle.pr_run.proofs.OriginLemmas.{runs_come}
use Rattle.pr_run.proofs.run_laws.statements_come_from_their_lines.Goals as goal

pub returns : goal.returns
returns c = runs_come
