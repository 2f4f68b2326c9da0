use Rattle.std.proofs.Common.{◌≡◌, ◌+◌, drop, false}
use Rattle.pr_interpreter.specs.Symbols.{items_size}
use Rattle.pr_interpreter.proofs.symbols.items_size.Given as goal

abbrev pub invariant-loop-i : goal.invariant-loop-i
invariant-loop-i l = l.i + items_size l.quoted (drop l.i l.text) ≡ items_size false l.text
