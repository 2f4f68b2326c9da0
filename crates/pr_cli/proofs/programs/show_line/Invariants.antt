use Rattle.std.proofs.Common.{length}
use Rattle.pr_cli.proofs.programs.show_line.Given as goal

abbrev pub decreases-loop-rest : goal.decreases-loop-rest
decreases-loop-rest g l = length l.rest
