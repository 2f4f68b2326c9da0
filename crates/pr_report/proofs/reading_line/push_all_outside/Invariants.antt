use Rattle.std.proofs.Common.{◌≡◌, ◌++◌, drop}
use Rattle.pr_report.specs.ReadingText.{outside_lines}
use Rattle.pr_report.proofs.reading_line.push_all_outside.Given as goal

-- the text so far and the lines of the intervals that are left make the whole
abbrev pub invariant-loop-interval : goal.invariant-loop-interval
invariant-loop-interval l = l.text.items ++ outside_lines l.bounds (drop l.interval-index l.intervals) l.reading ≡ l.fn.text.items ++ outside_lines l.bounds l.intervals l.reading
