use Rattle.std.proofs.Common.{◌≡◌, drop}
use Rattle.pr_report.specs.Steps.{first_half}
use Rattle.pr_report.proofs.tally.middle.Given as goal

-- what is left leads where all lead
abbrev pub invariant-loop-length : goal.invariant-loop-length
invariant-loop-length l = first_half l.count l.so_far l.length (drop l.length l.counters) ≡ first_half l.count 0 0 l.counters
