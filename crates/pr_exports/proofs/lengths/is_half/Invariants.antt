use Rattle.std.proofs.Common.{◌≡◌, ◌+◌, ◌≤◌, drop}
use Rattle.pr_report.specs.Summary.{at_most}
use Rattle.pr_exports.proofs.lengths.is_half.Given as goal

-- those so far, and those of the lengths that are left
abbrev pub invariant-loop-length : goal.invariant-loop-length
invariant-loop-length l = record {
  counted : l.count + at_most l.number (drop l.length-index l.lengths) ≡ at_most l.number l.lengths;
  few : l.count ≤ l.length-index;
}
