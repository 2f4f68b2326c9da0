use Rattle.std.proofs.Common.{◌≡◌, ◌-◌, ◌≤◌, [], drop, length}
use Rattle.pr_interpreter.specs.Reading.{repeated}
use Rattle.pr_interpreter.specs.Statements.{has_item, item}
use Rattle.pr_interpreter.proofs.printed.items.Given as goal

abbrev pub invariant-more : goal.invariant-more
invariant-more l = record {
  found :
      repeated has_item (item l.end) l.found.items l.passed 0 (drop l.passed l.lexemes)
      ≡ repeated has_item (item l.end) [] 0 0 l.lexemes;
  within : l.passed ≤ length l.lexemes;
}

abbrev pub decreases-more : goal.decreases-more
decreases-more l = length l.lexemes - l.passed
