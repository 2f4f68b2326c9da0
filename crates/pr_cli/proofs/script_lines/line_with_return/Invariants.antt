use Rattle.std.proofs.Common.{length}
use Rattle.pr_cli.proofs.script_lines.line_with_return.Given as goal

abbrev pub decreases-loop-rest : goal.decreases-loop-rest
decreases-loop-rest l = length l.rest
