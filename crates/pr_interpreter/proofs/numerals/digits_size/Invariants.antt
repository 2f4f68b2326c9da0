use Rattle.std.proofs.Common.{◌≡◌, ◌+◌, drop}
use Rattle.pr_interpreter.specs.Numerals.{digits_size}
use Rattle.pr_interpreter.proofs.numerals.digits_size.Given as goal

abbrev pub invariant-loop-i : goal.invariant-loop-i
invariant-loop-i l = digits_size l.symbols ≡ l.i + digits_size (drop l.i l.symbols)
