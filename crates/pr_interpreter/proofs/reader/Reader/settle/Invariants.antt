use Rattle.std.proofs.Common.{◌≡◌, length}
use Rattle.pr_interpreter.specs.Expressions.{settle}
use Rattle.pr_interpreter.specs.Reader.{seen}
use Rattle.pr_interpreter.proofs.reader.Reader.settle.Given as goal

abbrev pub invariant-loop-last : goal.invariant-loop-last
invariant-loop-last l = settle l.least (seen l.self) ≡ settle l.least (seen l.fn.self)

abbrev pub decreases-loop-last : goal.decreases-loop-last
decreases-loop-last l = length (seen l.self).waiting
