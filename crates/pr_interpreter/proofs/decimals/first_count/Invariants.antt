use Rattle.std.proofs.Common.{ℕ, ◌*◌, ◌^◌, ◌<◌, ◌≤◌}
use Rattle.pr_interpreter.specs.Decimals.{sixteenths, ten_digits}
use Rattle.pr_interpreter.proofs.decimals.first_count.Given as goal

abbrev pub invariant-loop-place : goal.invariant-loop-place
invariant-loop-place l = (p : ℕ) → p < l.place → ten_digits ≤ sixteenths p (l.end * 2 ^ l.scale)
