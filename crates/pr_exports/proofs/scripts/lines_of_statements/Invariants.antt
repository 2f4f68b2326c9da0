use Rattle.std.proofs.Common.{◌+◌, ◌≤◌, length}
use Rattle.pr_exports.proofs.Lines.{StaysPassed}
use Rattle.pr_exports.proofs.scripts.lines_of_statements.Given as goal

-- the lines so far have these numbers
abbrev pub invariant-loop-rest : goal.invariant-loop-rest
invariant-loop-rest l = record {
  lines : StaysPassed l.script l.number l.numbers.items l.rest;
  count : l.number + length l.rest ≤ length l.script;
}

abbrev pub decreases-loop-rest : goal.decreases-loop-rest
decreases-loop-rest l = length l.rest
