use Rattle.std.proofs.Common.{◌≡◌, ◌-◌, ◌≤◌, ◌++◌, drop, length}
use Rattle.pr_interpreter.specs.Lexemes.{lexemes}
use Rattle.pr_interpreter.proofs.lexemes.grouped.Given as goal

abbrev pub invariant-loop-passed : goal.invariant-loop-passed
invariant-loop-passed l = record {
  found : l.found.items ++ lexemes 0 (drop l.passed l.symbols) ≡ lexemes 0 l.symbols;
  within : l.passed ≤ length l.symbols;
}

abbrev pub decreases-loop-passed : goal.decreases-loop-passed
decreases-loop-passed l = length l.symbols - l.passed
