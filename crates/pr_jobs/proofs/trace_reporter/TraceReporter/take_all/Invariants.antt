use Rattle.std.proofs.Common.{◌+◌, ◌≤◌, take}
use Rattle.pr_jobs.specs.Reported.{CountsMore, edges_counted}
use Rattle.pr_jobs.proofs.trace_reporter.TraceReporter.take_all.Given as goal

-- the edges so far are taken
abbrev pub invariant-loop-edge : goal.invariant-loop-edge
invariant-loop-edge l = record {
  counted : CountsMore (take l.edge-index l.edges) l.fn.self l.self;
  count : edges_counted l.self ≤ edges_counted l.fn.self + l.edge-index;
}
