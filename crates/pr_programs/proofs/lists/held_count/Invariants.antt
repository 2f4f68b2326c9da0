use Rattle.std.proofs.Common.{◌≡◌, ◌+◌, drop}
use Rattle.std.specs.List.{prefix_len}
use Rattle.pr_listing.specs.Listing.{is_held}
use Rattle.pr_programs.proofs.lists.held_count.Given as goal

-- all so far count
abbrev pub invariant-loop-i : goal.invariant-loop-i
invariant-loop-i l = prefix_len is_held l.bytes ≡ l.i + prefix_len is_held (drop l.i l.bytes)
