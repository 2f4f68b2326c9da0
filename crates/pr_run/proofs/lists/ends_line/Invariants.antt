use Rattle.std.proofs.Common.{◌≡◌, true, drop}
use Rattle.pr_run.specs.Lists.{ends_after}
use Rattle.pr_run.proofs.lists.ends_line.Given as goal

abbrev pub invariant-loop-item : goal.invariant-loop-item
invariant-loop-item l = ends_after l.ends (drop l.item-index l.items) ≡ ends_after true l.items
