use Rattle.std.proofs.Common.{◌≡◌, ◌*◌, ◌≤◌, drop}
use Rattle.pr_run.specs.Assignments.{element_count}
use Rattle.pr_run.proofs.assignments.element_count.Given as goal

abbrev pub invariant-loop-bound : goal.invariant-loop-bound
invariant-loop-bound l = record {
  whole : l.count * element_count (drop l.bound-index l.bounds) ≡ element_count l.bounds;
  few : l.count ≤ 30000;
}
