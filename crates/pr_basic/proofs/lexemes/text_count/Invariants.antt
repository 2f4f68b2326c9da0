use Rattle.std.proofs.Common.{◌≡◌, ◌+◌, drop}
use Rattle.std.specs.List.{prefix_len}
use Rattle.pr_basic.specs.Lexemes.{is_no_quote}
use Rattle.pr_basic.proofs.lexemes.text_count.Given as goal

-- all so far count
abbrev pub invariant-loop-i : goal.invariant-loop-i
invariant-loop-i l = prefix_len is_no_quote l.bytes ≡ l.i + prefix_len is_no_quote (drop l.i l.bytes)
