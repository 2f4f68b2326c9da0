use Rattle.std.proofs.Common.{length}
use Rattle.pr_cli.proofs.script_lines.has_line_in_heading.Given as goal

abbrev pub decreases-loop-rest : goal.decreases-loop-rest
decreases-loop-rest l = length l.rest
