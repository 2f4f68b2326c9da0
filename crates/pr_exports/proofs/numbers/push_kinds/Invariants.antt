use Rattle.std.proofs.Common.{◌≡◌, ◌++◌, drop}
use Rattle.pr_exports.specs.Numbers.{kind_numbers}
use Rattle.pr_exports.proofs.numbers.push_kinds.Given as goal

-- the numbers so far, and those of the kinds that are left
abbrev pub invariant-loop-kind : goal.invariant-loop-kind
invariant-loop-kind l = l.numbers.items ++ kind_numbers (drop l.kind-index l.kinds) ≡ l.fn.numbers.items ++ kind_numbers l.kinds
