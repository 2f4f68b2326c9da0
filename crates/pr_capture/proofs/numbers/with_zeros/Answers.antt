use Rattle.std.proofs.Common.{sym, ◌∙◌}
use Rattle.pr_capture.proofs.DigitLemmas.{zero-more}
use Rattle.pr_capture.proofs.numbers.with_zeros.Goals as goal

pub loop-left-preserved : goal.loop-left-preserved
loop-left-preserved c =
    sym (zero-more c.loop-left.left c.loop-left.number c.in_ok-number.number c.loop-left-test.true (sym c.in_ok-number.ensures)) ∙ c.loop-left.invariant
