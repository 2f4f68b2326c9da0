use Rattle.pr_programs.proofs.ReadBack.{reads_back}
use Rattle.pr_programs.proofs.laws.scripts_read_back.Goals as goal

pub returns : goal.returns
returns c = reads_back
