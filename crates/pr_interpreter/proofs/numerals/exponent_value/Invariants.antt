use Rattle.std.proofs.Common.{◌≡◌, ◌≤◌, drop}
use Rattle.pr_interpreter.specs.Numerals.{exponent_value}
use Rattle.pr_interpreter.proofs.numerals.exponent_value.Given as goal

abbrev pub invariant-loop-digit : goal.invariant-loop-digit
invariant-loop-digit l = record {
  value : exponent_value l.value (drop l.digit-index l.digits) ≡ exponent_value 0 l.digits;
  small : l.value ≤ 1000;
}
