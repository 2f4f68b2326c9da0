use Rattle.std.proofs.Common.{◌≡◌, ◌≤◌, length, drop, ◌++◌}
use Rattle.pr_system.specs.Without.{without_from, without}
use Rattle.pr_system.proofs.device_left_out.without_device.Given as goal

-- what was kept and what will be kept of the others are the whole
abbrev pub invariant-loop-statement : goal.invariant-loop-statement
invariant-loop-statement l = record {
  list : l.rest.items ++ without_from l.device l.files (drop l.statement-index l.statements) ≡ without l.device l.statements;
  short : length l.rest.items ≤ l.statement-index;
}
