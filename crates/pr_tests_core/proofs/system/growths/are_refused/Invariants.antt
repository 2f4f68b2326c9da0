use Rattle.std.proofs.Common.{◌≡◌, false, None}
use Rattle.pr_tests_core.proofs.system.growths.are_refused.Given as goal

-- no statement has stopped, unless memory was refused
abbrev pub invariant-loop-statement : goal.invariant-loop-statement
invariant-loop-statement g l = l.running.failed ≡ false → l.running.stop ≡ None
