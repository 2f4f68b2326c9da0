use Rattle.std.proofs.Common.{◌≡◌, ◌+◌, drop}
use Rattle.pr_interpreter.specs.Lexemes.{name_size}
use Rattle.pr_interpreter.proofs.names.name_size.Given as goal

abbrev pub invariant-loop-i : goal.invariant-loop-i
invariant-loop-i l = name_size l.symbols ≡ l.i + name_size (drop l.i l.symbols)
