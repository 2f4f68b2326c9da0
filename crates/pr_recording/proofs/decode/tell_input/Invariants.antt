use Rattle.std.proofs.Common.{◌≡◌, ◌+◌, ◌*◌, ◌<◌, ◌≤◌, false, length, None}
use Rattle.pr_jobs.specs.Inputs.{bytes_left, fault_read, lines_ahead}
use Rattle.pr_jobs.specs.EdgesTaken.{HasTakenAll}
use Rattle.pr_recording.specs.Narrated.{load}
use Rattle.pr_recording.proofs.Answering.{HasWritten}
use Rattle.pr_recording.proofs.decode.tell_input.Given as goal

-- all edges so far were reported, what was settled is written, and nothing has failed
abbrev pub invariant-pieces : goal.invariant-pieces
invariant-pieces g l = record {
  read : HasTakenAll l.limit (g.R.Read.remaining l.fn.input.inner) (g.R.Read.remaining l.input.inner) l.fn.trace l.reader (HasWritten l.fn.trace.source l.fn.wording (g.W.Write.contents l.fn.output.inner) (g.W.Write.contents l.output.inner) l.report);
  faultless : fault_read l.reader ≡ None;
  lines : lines_ahead l.reader ≤ l.limit + 1;
  load : load l.report + 3 * bytes_left l.reader ≤ 3 * l.limit;
  fresh : l.input.failed ≡ false;
  clean : l.output.failed ≡ false;
  room : 0 < length l.block;
}

abbrev pub decreases-pieces : goal.decreases-pieces
decreases-pieces g l = bytes_left l.reader
