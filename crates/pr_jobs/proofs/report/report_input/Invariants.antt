use Rattle.std.proofs.Common.{◌≡◌, ◌+◌, ◌<◌, ◌≤◌, false, length, None}
use Rattle.pr_jobs.specs.Inputs.{bytes_left, fault_read, lines_ahead}
use Rattle.pr_jobs.specs.EdgesTaken.{HasTakenAll}
use Rattle.pr_jobs.specs.Reported.{HasCounted, edges_counted}
use Rattle.pr_jobs.proofs.report.report_input.Given as goal

-- all edges so far were reported, and nothing has failed
abbrev pub invariant-pieces : goal.invariant-pieces
invariant-pieces g l = record {
  read : HasTakenAll l.limit (g.R.Read.remaining l.fn.input.inner) (g.R.Read.remaining l.input.inner) l.fn.trace l.reader (λ edges. HasCounted l.fn.trace.source l.fn.report edges l.frames);
  faultless : fault_read l.reader ≡ None;
  lines : lines_ahead l.reader ≤ l.limit + 1;
  edges : edges_counted l.frames + bytes_left l.reader ≤ l.limit;
  fresh : l.input.failed ≡ false;
  room : 0 < length l.block;
}

abbrev pub decreases-pieces : goal.decreases-pieces
decreases-pieces g l = bytes_left l.reader
