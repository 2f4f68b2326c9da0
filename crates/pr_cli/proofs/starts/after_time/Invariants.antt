use Rattle.std.proofs.Common.{◌≡◌, drop}
use Rattle.pr_cli.specs.Starts.{after_time}
use Rattle.pr_cli.proofs.starts.after_time.Given as goal

-- what was passed is the time
abbrev pub invariant-loop-i : goal.invariant-loop-i
invariant-loop-i l = after_time (drop l.i l.row) ≡ after_time l.row
