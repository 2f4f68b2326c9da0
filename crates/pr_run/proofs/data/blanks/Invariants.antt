use Rattle.std.proofs.Common.{◌≡◌, ◌+◌, drop}
use Rattle.pr_interpreter.specs.Lines.{blanks}
use Rattle.pr_run.proofs.data.blanks.Given as goal

abbrev pub invariant-loop-i : goal.invariant-loop-i
invariant-loop-i l = blanks l.bytes ≡ l.i + blanks (drop l.i l.bytes)
