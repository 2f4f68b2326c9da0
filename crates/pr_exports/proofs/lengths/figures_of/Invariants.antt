use Rattle.std.proofs.Common.{◌≡◌, ◌++◌, drop}
use Rattle.pr_exports.specs.Lengths.{interval_numbers}
use Rattle.pr_exports.proofs.lengths.figures_of.Given as goal

-- the numbers so far, and those of the intervals that are left
abbrev pub invariant-loop-interval : goal.invariant-loop-interval
invariant-loop-interval l =
    l.numbers.items ++ interval_numbers (drop l.interval-index l.intervals) l.readings ≡ interval_numbers l.intervals l.readings
