use Rattle.std.proofs.Common.{◌≡◌, ◌+◌, ◌<◌, ◌≤◌, false, length, None}
use Rattle.pr_jobs.specs.Inputs.{bytes_left, fault_read, lines_ahead}
use Rattle.pr_jobs.specs.EdgesTaken.{HasTakenAll}
use Rattle.pr_recording.specs.Taped.{HasTakenTo, edges_taped}
use Rattle.pr_recording.proofs.blocks.read_into.Given as goal

-- all edges so far were taken, and nothing has failed
abbrev pub invariant-pieces : goal.invariant-pieces
invariant-pieces g l = record {
  read : HasTakenAll l.limit (g.R.Read.remaining l.fn.input.inner) (g.R.Read.remaining l.input.inner) l.fn.trace l.reader (HasTakenTo g.T.Takes.takes l.fn.taker l.taker l.tape);
  faultless : fault_read l.reader ≡ None;
  lines : lines_ahead l.reader ≤ l.limit + 1;
  edges : edges_taped l.tape + bytes_left l.reader ≤ l.limit;
  room : g.T.Takes.may_take (bytes_left l.reader + 19) l.taker;
  fresh : l.input.failed ≡ false;
  block : 0 < length l.block;
}

abbrev pub decreases-pieces : goal.decreases-pieces
decreases-pieces g l = bytes_left l.reader
