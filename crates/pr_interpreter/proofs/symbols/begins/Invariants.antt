use Rattle.std.proofs.Common.{◌≡◌, drop}
use Rattle.pr_interpreter.specs.Symbols.{begins}
use Rattle.pr_interpreter.proofs.symbols.begins.Given as goal

abbrev pub invariant-loop-i : goal.invariant-loop-i
invariant-loop-i l = begins (drop l.i l.word) (drop l.i l.text) ≡ begins l.word l.text
