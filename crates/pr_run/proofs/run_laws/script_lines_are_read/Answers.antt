use Rattle.pr_run.proofs.SpelledLemmas.{lines_read}
use Rattle.pr_run.proofs.run_laws.script_lines_are_read.Goals as goal

pub returns : goal.returns
returns c = lines_read
