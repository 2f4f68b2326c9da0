use Rattle.std.proofs.Common.{length}
use Rattle.pr_cli.proofs.order.misplaced_in.Given as goal

abbrev pub decreases-loop-rest : goal.decreases-loop-rest
decreases-loop-rest l = length l.rest
