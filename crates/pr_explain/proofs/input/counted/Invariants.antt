use Rattle.std.proofs.Common.{◌≡◌, take}
use Rattle.pr_jobs.specs.Begun.{HasBegun}
use Rattle.pr_jobs.specs.Report.{edges_checked}
use Rattle.pr_explain.proofs.input.counted.Given as goal

-- the edges so far are counted
abbrev pub invariant-loop-edge : goal.invariant-loop-edge
invariant-loop-edge l = record {
  begun : HasBegun l.fn.source (take l.edge-index l.edges) l.beginning;
  counts : l.counted.items ≡ edges_checked l.fn.source (take l.edge-index l.edges);
}
