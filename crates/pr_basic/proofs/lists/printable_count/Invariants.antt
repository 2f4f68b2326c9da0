use Rattle.std.proofs.Common.{◌≡◌, ◌+◌, drop}
use Rattle.std.specs.List.{prefix_len}
use Rattle.pr_basic.specs.Grammar.{is_printable}
use Rattle.pr_basic.proofs.lists.printable_count.Given as goal

-- all so far count
abbrev pub invariant-loop-i : goal.invariant-loop-i
invariant-loop-i l = prefix_len is_printable l.string ≡ l.i + prefix_len is_printable (drop l.i l.string)
