use Rattle.std.proofs.Common.{◌≡◌, ◌≤◌}
use Rattle.pr_interpreter.specs.Lines.{after_rest, program_lines}
use Rattle.pr_interpreter.proofs.lines.lines_of.Given as goal

abbrev pub invariant-loop-place : goal.invariant-loop-place
invariant-loop-place l = (after_rest l.text l.start l.place l.lines.items ≡ program_lines l.text) × (l.start ≤ l.place)
