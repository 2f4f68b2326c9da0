use Rattle.std.proofs.Common.{◌≡◌, ◌++◌, drop}
use Rattle.pr_report.specs.JsonText.{members}
use Rattle.pr_report.proofs.json_line.push_members.Given as goal

-- the text so far and the intervals that are left make the whole
abbrev pub invariant-loop-interval : goal.invariant-loop-interval
invariant-loop-interval l = l.text.items ++ members (drop l.interval-index l.intervals) l.reading ≡ l.fn.text.items ++ members l.intervals l.reading
