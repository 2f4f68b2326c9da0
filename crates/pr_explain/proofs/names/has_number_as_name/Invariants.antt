use Rattle.std.proofs.Common.{length}
use Rattle.pr_explain.proofs.names.has_number_as_name.Given as goal

abbrev pub decreases-loop-rest : goal.decreases-loop-rest
decreases-loop-rest l = length l.rest
