use Rattle.std.proofs.Common.{◌≡◌, ◌-◌, ◌≤◌, length, replicate}
use Rattle.pr_run.proofs.lists.steps_right.Given as goal

abbrev pub invariant-loop-bytes : goal.invariant-loop-bytes
invariant-loop-bytes l = record {
  same : l.bytes.items ≡ replicate (length l.bytes.items) l.step;
  within : length l.bytes.items ≤ l.count;
}

abbrev pub decreases-loop-bytes : goal.decreases-loop-bytes
decreases-loop-bytes l = l.count - length l.bytes.items
