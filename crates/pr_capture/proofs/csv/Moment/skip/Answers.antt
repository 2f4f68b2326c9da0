use Rattle.std.proofs.Common.{◌<◌, arith, sym, ◌∙◌}
use Rattle.pr_capture.proofs.CsvCopies.{skipped}
use Rattle.pr_capture.proofs.csv.Moment.skip.Goals as goal

-- all numbers are small enough
pub returns-clause-after : goal.returns-clause-after
returns-clause-after c =
    let some : 0 < c.args.rows = omega (arith, c.if-rows-eq0.false) in
    (skipped c.args.rate c.args.rows c.in_ok-time_at_rate.field-0 c.in_ok-time_at_rate-2.field-0 c.in_ok-count.count c.args.self some
    (sym c.time_at_rate.ensures.time ∙ c.in_ok-time_at_rate.was) (omega (arith, c.if-branch-self.false)) c.in_ok-count.ensures (sym c.time_at_rate-2.ensures.time ∙ c.in_ok-time_at_rate-2.was)).after

pub returns-clause-timed : goal.returns-clause-timed
returns-clause-timed c =
    let some : 0 < c.args.rows = omega (arith, c.if-rows-eq0.false) in
    (skipped c.args.rate c.args.rows c.in_ok-time_at_rate.field-0 c.in_ok-time_at_rate-2.field-0 c.in_ok-count.count c.args.self some
    (sym c.time_at_rate.ensures.time ∙ c.in_ok-time_at_rate.was) (omega (arith, c.if-branch-self.false)) c.in_ok-count.ensures (sym c.time_at_rate-2.ensures.time ∙ c.in_ok-time_at_rate-2.was)).timed
