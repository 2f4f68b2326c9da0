use Rattle.std.proofs.Common.{◌≡◌, ◌≤◌, length, reverse, take}
use Rattle.pr_run.specs.Opened.{loop_of}
use Rattle.pr_run.proofs.opened.loop_of.Given as goal

abbrev pub invariant-loop-count : goal.invariant-loop-count
invariant-loop-count l = record {
  same : loop_of l.wanted (reverse (take l.count l.opened)) ≡ loop_of l.wanted (reverse l.opened);
  within : l.count ≤ length l.opened;
}

abbrev pub decreases-loop-count : goal.decreases-loop-count
decreases-loop-count l = l.count
