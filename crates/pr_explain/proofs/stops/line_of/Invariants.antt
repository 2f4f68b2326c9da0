use Rattle.std.proofs.Common.{◌+◌, ◌≤◌, length}
use Rattle.pr_explain.proofs.StopLemmas.{StaysLeft}
use Rattle.pr_explain.proofs.stops.line_of.Given as goal

-- this many statements are left to pass in the lines that are left
abbrev pub invariant-loop-line : goal.invariant-loop-line
invariant-loop-line l = record {
  lines : StaysLeft l.script l.statement l.number l.left l.rest;
  count : l.number + length l.rest ≤ length l.script;
}

abbrev pub decreases-loop-line : goal.decreases-loop-line
decreases-loop-line l = length l.rest
