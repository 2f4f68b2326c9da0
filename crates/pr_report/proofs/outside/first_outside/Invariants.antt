use Rattle.std.proofs.Common.{◌≡◌, drop}
use Rattle.pr_report.specs.Outside.{first_of, outside_in}
use Rattle.pr_report.proofs.outside.first_outside.Given as goal

-- the first of the intervals that are left is the first of all
abbrev pub invariant-loop-interval : goal.invariant-loop-interval
invariant-loop-interval l = first_of (outside_in l.bounds (drop l.interval-index l.intervals) l.reading) ≡ first_of (outside_in l.bounds l.intervals l.reading)
