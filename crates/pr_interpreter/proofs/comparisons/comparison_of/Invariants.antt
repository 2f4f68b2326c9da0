use Rattle.std.proofs.Common.{◌≡◌, ◌+◌, drop}
use Rattle.pr_interpreter.specs.Lexemes.{comparison, comparison_size, no_sign}
use Rattle.pr_interpreter.proofs.comparisons.comparison_of.Given as goal

abbrev pub invariant-loop-i : goal.invariant-loop-i
invariant-loop-i l = record {
  order : comparison l.order (drop l.i l.symbols) ≡ comparison no_sign l.symbols;
  size : l.i + comparison_size l.order (drop l.i l.symbols) ≡ comparison_size no_sign l.symbols;
}
