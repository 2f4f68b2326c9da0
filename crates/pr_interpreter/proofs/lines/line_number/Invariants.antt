use Rattle.std.proofs.Common.{◌≡◌, ◌≤◌, drop}
use Rattle.pr_interpreter.specs.Lines.{line_number}
use Rattle.pr_interpreter.proofs.lines.line_number.Given as goal

abbrev pub invariant-loop-b : goal.invariant-loop-b
invariant-loop-b l = (line_number l.number (drop l.b-index l.digits) ≡ line_number 0 l.digits) × (l.number ≤ 63999)
