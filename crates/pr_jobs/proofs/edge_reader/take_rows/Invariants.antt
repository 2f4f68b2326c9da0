use Rattle.std.proofs.Common.{◌+◌, ◌≤◌, length}
use Rattle.pr_jobs.specs.Sources.{lines_read}
use Rattle.pr_jobs.proofs.InputLemmas.{TakesFront}
use Rattle.pr_jobs.proofs.edge_reader.take_rows.Given as goal

-- the edges known by a front of the block were added; each line takes at least a byte, and each edge does
abbrev pub invariant-loop-rest : goal.invariant-loop-rest
invariant-loop-rest l = record {
  taken : TakesFront l.block l.rest l.fn.edges.items l.fn.reader l.fn.maker l.edges.items l.reader l.maker;
  lines : lines_read l.reader + length l.rest ≤ lines_read l.fn.reader + length l.block;
  few : length l.edges.items + length l.rest ≤ length l.fn.edges.items + length l.block;
}

abbrev pub decreases-loop-rest : goal.decreases-loop-rest
decreases-loop-rest l = length l.rest
