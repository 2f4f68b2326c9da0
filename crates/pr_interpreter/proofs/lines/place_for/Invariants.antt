use Rattle.std.proofs.Common.{◌≡◌, ◌+◌, drop}
use Rattle.pr_interpreter.specs.Lines.{place_for}
use Rattle.pr_interpreter.proofs.lines.place_for.Given as goal

abbrev pub invariant-loop-i : goal.invariant-loop-i
invariant-loop-i l = place_for l.number l.lines ≡ l.i + place_for l.number (drop l.i l.lines)
