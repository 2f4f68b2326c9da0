use Rattle.std.proofs.Common.{◌≡◌, ◌≤◌, ◌+◌, ◌-◌, length}
use Rattle.pr_base.specs.Lines.{lines_of}
use Rattle.pr_basic.specs.Limits.{statement_limit}
use Rattle.pr_basic.specs.ReadingScripts.{lines_statements, script_of}
use Rattle.pr_basic.specs.Reads.{with_front}
use Rattle.pr_basic.proofs.script.read_script_at.Given as goal

-- the statements so far and those of the lines that are left are all
abbrev pub invariant-loop-rest : goal.invariant-loop-rest
invariant-loop-rest l = record {
  read : script_of l.bytes ≡ with_front l.statements.items (lines_statements (l.number + 1) (length l.bytes - length l.rest) (statement_limit - length l.statements.items) (lines_of l.rest));
  few : length l.statements.items ≤ statement_limit;
  count : l.number + length l.rest ≤ length l.bytes;
}

abbrev pub decreases-loop-rest : goal.decreases-loop-rest
decreases-loop-rest l = length l.rest
