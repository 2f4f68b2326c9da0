use Rattle.std.proofs.Common.{◌≡◌, drop}
use Rattle.pr_run.specs.Lists.{at_left_after}
use Rattle.pr_run.proofs.lists.at_left_after.Given as goal

abbrev pub invariant-loop-b : goal.invariant-loop-b
invariant-loop-b l = at_left_after l.at_left (drop l.b-index l.bytes) ≡ at_left_after l.before l.bytes
