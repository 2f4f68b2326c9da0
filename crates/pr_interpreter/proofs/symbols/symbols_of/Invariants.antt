use Rattle.std.proofs.Common.{◌≡◌, ◌+◌, ◌-◌, ◌≤◌, ◌++◌, drop, length}
use Rattle.pr_interpreter.specs.Symbols.{symbols}
use Rattle.pr_interpreter.proofs.symbols.symbols_of.Given as goal

abbrev pub invariant-loop-passed : goal.invariant-loop-passed
invariant-loop-passed l = record {
  found : l.found.items ++ symbols l.writing (l.place + l.passed) 0 (drop l.passed l.line)
      ≡ symbols l.writing l.place 0 l.line;
  within : l.passed ≤ length l.line;
}

abbrev pub decreases-loop-passed : goal.decreases-loop-passed
decreases-loop-passed l = length l.line - l.passed
