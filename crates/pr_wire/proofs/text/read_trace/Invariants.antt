use Rattle.std.proofs.Common.{length}
use Rattle.pr_wire.proofs.TextLaws.{HasRead}
use Rattle.pr_wire.proofs.text.read_trace.Given as goal

-- the lines so far spell the edges so far
abbrev pub invariant-loop-rest : goal.invariant-loop-rest
invariant-loop-rest l = HasRead l.text l.rest l.edges.items

abbrev pub decreases-loop-rest : goal.decreases-loop-rest
decreases-loop-rest l = length l.rest
