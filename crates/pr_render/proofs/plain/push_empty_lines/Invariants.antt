use Rattle.std.proofs.Common.{◌≡◌, ◌++◌}
use Rattle.pr_render.specs.Plain.{empty_lines}
use Rattle.pr_render.proofs.plain.push_empty_lines.Given as goal

abbrev pub invariant-loop-line : goal.invariant-loop-line
invariant-loop-line l = l.text.items ≡ l.fn.text.items ++ empty_lines l._line
