use Rattle.std.proofs.Common.{◌≡◌, ◌-◌, ◌≤◌, drop}
use Rattle.pr_run.specs.Opened.{stack_size}
use Rattle.pr_run.proofs.opened.stack_left.Given as goal

abbrev pub invariant-loop-open : goal.invariant-loop-open
invariant-loop-open l = record {
  all : l.left - stack_size (drop l.open-index l.opened) ≡ 162 - stack_size l.opened;
  few : l.left ≤ 162;
}
