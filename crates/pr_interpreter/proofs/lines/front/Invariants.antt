use Rattle.std.proofs.Common.{◌≡◌, ◌+◌, drop}
use Rattle.pr_interpreter.specs.Lines.{front}
use Rattle.pr_interpreter.proofs.lines.front.Given as goal

abbrev pub invariant-loop-i : goal.invariant-loop-i
invariant-loop-i l = front l.row ≡ l.i + front (drop l.i l.row)
