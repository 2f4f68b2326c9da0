use Rattle.std.proofs.Common.{◌≡◌, ◌-◌, ◌≤◌, drop, length}
use Rattle.pr_interpreter.specs.Reading.{after, begins_comma, repeated}
use Rattle.pr_interpreter.specs.Statements.{further_target}
use Rattle.pr_interpreter.proofs.targets.more_targets.Given as goal

abbrev pub invariant-more : goal.invariant-more
invariant-more l = record {
  found :
      repeated begins_comma (after 44 further_target l.end) l.found.items l.passed 0 (drop l.passed l.lexemes)
      ≡ repeated begins_comma (after 44 further_target l.end) l.fn.found.items 0 0 l.lexemes;
  within : l.passed ≤ length l.lexemes;
}

abbrev pub decreases-more : goal.decreases-more
decreases-more l = length l.lexemes - l.passed
