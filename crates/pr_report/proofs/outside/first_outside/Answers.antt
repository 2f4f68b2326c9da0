use Rattle.std.proofs.Common.{sym, ◌∙◌}
use Rattle.pr_report.proofs.FoundOutside.{found-here, found-later}
use Rattle.pr_report.proofs.outside.first_outside.Goals as goal

pub returns-in-Some : goal.returns-in-Some
returns-in-Some c =
    found-here c.args.bounds c.args.intervals.now c.loop-interval.interval-index _ c.args.reading.now _ c.in-Some.found c.loop-interval-test.true c.loop-interval.invariant
    (sym c.outside_at.ensures ∙ c.in-Some.is)

pub loop-interval-preserved : goal.loop-interval-preserved
loop-interval-preserved c =
    found-later c.args.bounds c.args.intervals.now c.loop-interval.interval-index _ c.args.reading.now _ c.loop-interval-test.true c.loop-interval.invariant
    (sym c.outside_at.ensures ∙ c.in_default.is)
