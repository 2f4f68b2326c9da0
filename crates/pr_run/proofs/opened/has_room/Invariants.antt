use Rattle.std.proofs.Common.{◌≡◌, ◌+◌, drop}
use Rattle.pr_run.specs.Opened.{stack_size}
use Rattle.pr_run.proofs.opened.has_room.Given as goal

abbrev pub invariant-loop-open : goal.invariant-loop-open
invariant-loop-open l = l.size + stack_size (drop l.open-index l.opened) ≡ l.more + stack_size l.opened
