use Rattle.std.proofs.Common.{◌+◌, ◌≤◌, length}
use Rattle.pr_wire.specs.TraceReading.{edge_count}
use Rattle.pr_tests_core.proofs.wire.texts.read_blocks.Given as goal

-- a line has at least one byte
abbrev pub invariant-loop-rest : goal.invariant-loop-rest
invariant-loop-rest g l = edge_count l.reader + length l.rest ≤ length l.text

-- this many bytes are left
abbrev pub decreases-loop-rest : goal.decreases-loop-rest
decreases-loop-rest g l = length l.rest
