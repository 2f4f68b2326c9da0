use Rattle.std.proofs.Common.{◌≡◌, ◌+◌, drop}
use Rattle.std.specs.List.{prefix_len}
use Rattle.pr_listing.specs.Program.{is_not_zero}
use Rattle.pr_listing.proofs.program.count_to_zero.Given as goal

-- all so far count
abbrev pub invariant-loop-i : goal.invariant-loop-i
invariant-loop-i l = prefix_len is_not_zero l.bytes ≡ l.i + prefix_len is_not_zero (drop l.i l.bytes)
