use Rattle.std.proofs.Common.{◌≡◌, ◌+◌, drop}
use Rattle.pr_run.specs.Data.{plain_size}
use Rattle.pr_run.proofs.data.plain_size.Given as goal

abbrev pub invariant-loop-i : goal.invariant-loop-i
invariant-loop-i l = plain_size l.bytes ≡ l.i + plain_size (drop l.i l.bytes)
