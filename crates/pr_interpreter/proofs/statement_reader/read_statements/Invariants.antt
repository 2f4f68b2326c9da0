use Rattle.std.proofs.Common.{◌≡◌, ◌-◌, ◌≤◌, drop, length}
use Rattle.pr_interpreter.specs.Statements.{further, statements}
use Rattle.pr_interpreter.proofs.statement_reader.read_statements.Given as goal

abbrev pub invariant-more : goal.invariant-more
invariant-more l = record {
  found : further l.end l.found.items 0 (drop l.passed l.lexemes) ≡ statements l.end l.lexemes;
  within : l.passed ≤ length l.lexemes;
}

abbrev pub decreases-more : goal.decreases-more
decreases-more l = length l.lexemes - l.passed
