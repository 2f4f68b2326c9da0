use Rattle.std.proofs.Common.{◌≤◌, length}
use Rattle.pr_basic.specs.Limits.{statement_limit}
use Rattle.pr_basic.proofs.ScriptLaws.{IsReadTo, work}
use Rattle.pr_basic.proofs.script.read_parts.Given as goal

-- the statements so far and those of what is left are all
abbrev pub invariant-loop-rest : goal.invariant-loop-rest
invariant-loop-rest l = record { read : IsReadTo l.fn.statements.items l.statements.items l.line l.rest; few : length l.statements.items ≤ statement_limit }

abbrev pub decreases-loop-rest : goal.decreases-loop-rest
decreases-loop-rest l = work l.rest
