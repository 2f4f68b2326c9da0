use Rattle.std.proofs.Common.{◌≡◌, ◌+◌, drop}
use Rattle.std.specs.List.{prefix_len}
use Rattle.pr_listing.specs.Typed.{is_within}
use Rattle.pr_listing.proofs.typed.count_within.Given as goal

-- all so far count
abbrev pub invariant-loop-i : goal.invariant-loop-i
invariant-loop-i l = prefix_len (is_within l.brackets) l.bytes ≡ l.i + prefix_len (is_within l.brackets) (drop l.i l.bytes)
