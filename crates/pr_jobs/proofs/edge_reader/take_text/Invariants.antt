use Rattle.std.proofs.Common.{◌+◌, ◌≤◌, length}
use Rattle.pr_wire.specs.TraceReading.{edge_count}
use Rattle.pr_jobs.specs.declared.source_reader.SourceReader.TheVariants as reader
use Rattle.pr_jobs.proofs.InputLemmas.{TakesFront}
use Rattle.pr_jobs.proofs.edge_reader.take_text.Given as goal

-- the edges of a front of the block were added; each line takes at least a byte, and each edge does
abbrev pub invariant-loop-rest : goal.invariant-loop-rest
invariant-loop-rest l = record {
  taken : TakesFront l.block l.rest l.fn.edges.items (reader.Text l.fn.reader) l.fn.maker l.edges.items (reader.Text l.reader) l.maker;
  lines : edge_count l.reader + length l.rest ≤ edge_count l.fn.reader + length l.block;
  few : length l.edges.items + length l.rest ≤ length l.fn.edges.items + length l.block;
}

abbrev pub decreases-loop-rest : goal.decreases-loop-rest
decreases-loop-rest l = length l.rest
