use Rattle.std.proofs.Common.{◌≡◌, ◌++◌, drop}
use Rattle.pr_report.specs.Summary.{lengths}
use Rattle.pr_exports.proofs.lengths.lengths_of.Given as goal

-- the lengths so far, and those of the readings that are left
abbrev pub invariant-loop-reading : goal.invariant-loop-reading
invariant-loop-reading l =
    l.found.items ++ lengths l.interval (drop l.reading-index l.readings) ≡ lengths l.interval l.readings
