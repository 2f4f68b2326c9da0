use Rattle.std.proofs.Common.{◌≡◌, ℕ, ◌<◌, ◌≤◌, ◌-◌, true, false}
use Rattle.pr_report.specs.Summary.{is_half}
use Rattle.pr_exports.proofs.lengths.middle.Given as goal

-- more lengths exceed each number below `low`, and no more exceed `high`
abbrev pub invariant-loop-low : goal.invariant-loop-low
invariant-loop-low l = record {
  below : (k : ℕ) → k < l.low → is_half l.lengths k ≡ false;
  half : is_half l.lengths l.high ≡ true;
  order : l.low ≤ l.high;
}

abbrev pub decreases-loop-low : goal.decreases-loop-low
decreases-loop-low l = l.high - l.low
