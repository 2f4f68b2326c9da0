use Rattle.std.proofs.Common.{◌≤◌}
use Rattle.pr_wire.specs.Checked.{line_count}
use Rattle.pr_tests_core.proofs.wire.checker.frames_come_with_their_line.Given as goal

-- a line has at least one byte
abbrev pub invariant-loop-byte : goal.invariant-loop-byte
invariant-loop-byte g l = line_count l.checker ≤ l.byte-index
