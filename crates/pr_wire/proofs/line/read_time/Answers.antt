use Rattle.std.proofs.Common.{arith, sym, ◌∙◌}
use Rattle.pr_wire.proofs.LineLaws.{time_over, time_all}
use Rattle.pr_wire.proofs.line.read_time.Goals as goal

pub returns-in_err-tens : goal.returns-in_err-tens
returns-in_err-tens c =
    c.from_residual.ensures ∙ sym (time_over _ _ c.loop-digit.digit-index c.loop-digit.invariant.number c.loop-digit-test.true (omega (arith, c.in_err-tens.ensures)))

pub returns-in_err-time : goal.returns-in_err-time
returns-in_err-time c =
    c.from_residual-in_err-time.ensures
    ∙ sym (time_over _ _ c.loop-digit.digit-index c.loop-digit.invariant.number c.loop-digit-test.true (omega (arith, c.in_err-time.ensures, c.from.ensures, c.saturating_sub.ensures, c.in_ok-tens.ensures)))

pub returns : goal.returns
returns c = time_all _ _ c.loop-digit.digit-index c.loop-digit.invariant.number c.loop-digit-test.false (grind arith) c.loop-digit.invariant.small
