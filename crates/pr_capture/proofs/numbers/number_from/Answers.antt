use Rattle.std.proofs.Common.{arith, sym, ◌∙◌}
use Rattle.pr_capture.proofs.DigitLemmas.{number-over}
use Rattle.pr_capture.proofs.numbers.number_from.Goals as goal

pub returns-in_err-tens : goal.returns-in_err-tens
returns-in_err-tens c =
    c.from_residual.ensures
    ∙ (sym (number-over c.loop-digit.number c.args.digits.now c.loop-digit.digit-index c.loop-digit-test.true (omega (arith, c.in_err-tens.ensures))) ∙ c.loop-digit.invariant)
