use Rattle.std.proofs.Common.{length}
use Rattle.pr_cli.proofs.programs.row_numbered.Given as goal

abbrev pub decreases-loop-rest : goal.decreases-loop-rest
decreases-loop-rest l = length l.rest
