use Rattle.std.proofs.Common.{◌≡◌, ◌+◌, drop}
use Rattle.std.specs.List.{position_or_len}
use Rattle.pr_interpreter.specs.Symbols.{is_quote}
use Rattle.pr_run.proofs.items.quote_place.Given as goal

abbrev pub invariant-loop-i : goal.invariant-loop-i
invariant-loop-i l = position_or_len is_quote l.bytes ≡ l.i + position_or_len is_quote (drop l.i l.bytes)
