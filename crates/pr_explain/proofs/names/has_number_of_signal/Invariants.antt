use Rattle.std.proofs.Common.{length}
use Rattle.pr_explain.proofs.names.has_number_of_signal.Given as goal

abbrev pub decreases-loop-names : goal.decreases-loop-names
decreases-loop-names l = length l.rest
