use Rattle.std.proofs.Common.{◌≡◌, ◌++◌}
use Rattle.std.specs.Prelude.{replicate}
use Rattle.pr_exports.proofs.scripts.push_times.Given as goal

-- it is there as often so far
abbrev pub invariant-loop-index : goal.invariant-loop-index
invariant-loop-index l = l.numbers.items ≡ l.fn.numbers.items ++ replicate l.index l.number
