use Rattle.std.proofs.Common.{◌≡◌, ◌+◌}
use Rattle.std.specs.Prelude.{◌-◌}
use Rattle.pr_png.specs.Marking.{darkened_lines}
use Rattle.pr_png.proofs.marking.darken_lines.Given as goal

-- the picture so far with the lines that are left is the picture with all lines
abbrev pub invariant-loop-next : goal.invariant-loop-next
invariant-loop-next l =
    darkened_lines l.extent l.column (l.line + l.next) (l.count - l.next) l.dark
    ≡ darkened_lines l.extent l.column l.line l.count l.fn.dark
