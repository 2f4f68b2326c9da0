use Rattle.std.proofs.Common.{◌≡◌, ◌+◌, ◌≤◌, drop}
use Rattle.pr_interpreter.specs.Numerals.{no_digits, numeral, numeral_size}
use Rattle.pr_interpreter.proofs.numerals.numeral_of.Given as goal

abbrev pub invariant-loop-i : goal.invariant-loop-i
invariant-loop-i l = record {
  digits : numeral l.read (drop l.i l.symbols) ≡ numeral no_digits l.symbols;
  size : l.i + numeral_size l.read (drop l.i l.symbols) ≡ numeral_size no_digits l.symbols;
  further : l.read.further ≤ l.i;
  decimals : l.read.decimals ≤ l.i;
}
