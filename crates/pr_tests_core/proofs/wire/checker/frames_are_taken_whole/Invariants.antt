use Rattle.std.proofs.Common.{◌+◌, ◌≤◌, length}
use Rattle.pr_wire.specs.Checked.{line_count}
use Rattle.pr_tests_core.proofs.wire.checker.frames_are_taken_whole.Given as goal

-- a line has at least one byte
abbrev pub invariant-loop-rest : goal.invariant-loop-rest
invariant-loop-rest g l = line_count l.checker + length l.rest ≤ 10000

-- this many bytes are left
abbrev pub decreases-loop-rest : goal.decreases-loop-rest
decreases-loop-rest g l = length l.rest
