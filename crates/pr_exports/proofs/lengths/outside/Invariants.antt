use Rattle.std.proofs.Common.{◌≡◌, ◌+◌, ◌≤◌, drop}
use Rattle.std.specs.List.{count_by}
use Rattle.pr_report.specs.declared.detail.Bounds.TheVariants.{Profile}
use Rattle.pr_report.specs.Intervals.{is_outside}
use Rattle.pr_exports.proofs.lengths.outside.Given as goal

-- those so far, and those of the lengths that are left
abbrev pub invariant-loop-length : goal.invariant-loop-length
invariant-loop-length l = record {
  counted : l.count + count_by (is_outside Profile l.interval) (drop l.length-index l.lengths)
      ≡ count_by (is_outside Profile l.interval) l.lengths;
  few : l.count ≤ l.length-index;
}
