use Rattle.std.proofs.Common.{◌≡◌, ◌+◌, ◌-◌, ◌≤◌, ◌++◌, drop, length}
use Rattle.pr_run.specs.Data.{items, more_items}
use Rattle.pr_run.proofs.data.put_items.Given as goal

abbrev pub invariant-loop-taken : goal.invariant-loop-taken
invariant-loop-taken l = record {
  found :
      l.found.items ++ more_items l.line 0 (l.place + l.taken) (drop l.taken l.bytes)
      ≡ l.fn.found.items ++ items l.line l.place l.bytes;
  within : l.taken ≤ length l.bytes;
}

abbrev pub decreases-loop-taken : goal.decreases-loop-taken
decreases-loop-taken l = length l.bytes - l.taken
