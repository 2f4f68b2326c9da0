use Rattle.std.proofs.Common.{◌≡◌, ◌+◌, drop}
use Rattle.std.specs.List.{position_or_len}
use Rattle.pr_exports.specs.Printing.{is_no_input}
use Rattle.pr_exports.proofs.printing.first_no_input.Given as goal

-- all so far mean inputs
abbrev pub invariant-loop-index : goal.invariant-loop-index
invariant-loop-index l = position_or_len is_no_input l.numbers ≡ l.index + position_or_len is_no_input (drop l.index l.numbers)
