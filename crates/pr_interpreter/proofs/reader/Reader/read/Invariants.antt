use Rattle.std.proofs.Common.{◌≡◌, drop}
use Rattle.pr_interpreter.specs.Expressions.{reading}
use Rattle.pr_interpreter.specs.Reader.{seen}
use Rattle.pr_interpreter.specs.declared.reader.Expected.TheVariants.{Operand}
use Rattle.pr_interpreter.proofs.reader.Reader.read.Given as goal

abbrev pub invariant-loop-i : goal.invariant-loop-i
invariant-loop-i l =
    reading (seen l.self) l.expected l.i l.end (drop l.i l.lexemes) ≡ reading (seen l.fn.self) Operand 0 l.end l.lexemes
