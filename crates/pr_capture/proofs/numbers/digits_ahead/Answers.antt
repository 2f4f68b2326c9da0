use Rattle.std.proofs.Common.{◌≡◌, ◌+◌, ◌*◌, ◌-◌, ◌<◌, ◌≤◌, ap, arith, drop, drop-cons, get_or, suc, sym, true, ◌∙◌}
use Rattle.std.proofs.lemmas.Grind.{common_steps}
use Rattle.pr_base.specs.Digits.{is_digit}
use Rattle.pr_capture.specs.CsvSteps.{digits_left}
use Rattle.pr_capture.proofs.DigitLemmas.{digits-more, digits-over}
use Rattle.pr_capture.proofs.numbers.digits_ahead.Goals as goal

pub returns-in_err-tens-clause-digits : goal.returns-in_err-tens-clause-digits
returns-in_err-tens-clause-digits c =
    let text = c.args.text.now in
    let i = c.loop-i.i in
    let n = c.loop-i.number in
    let digit : is_digit (get_or text i 0) ≡ true = sym c.is_digit.ensures ∙ c.if-not-is_digit.false in
    let over = digits-over n i (get_or text i 0) (drop (suc i) text) digit (omega (arith, c.in_err-tens.ensures)) in
    c.from_residual.ensures ∙ (sym over ∙ (ap (digits_left n i) (sym (drop-cons text i 0 c.loop-i-test.true)) ∙ c.loop-i.invariant))

pub returns-in_err-number-clause-digits : goal.returns-in_err-number-clause-digits
returns-in_err-number-clause-digits c =
    let text = c.args.text.now in
    let i = c.loop-i.i in
    let n = c.loop-i.number in
    let digit : is_digit (get_or text i 0) ≡ true = sym c.is_digit.ensures ∙ c.if-not-is_digit.false in
    let many : 18446744073709551616 ≤ 10 * n + (get_or text i 0 - 48) = grind (arith, common_steps, c.in_err-number.ensures, c.in_ok-tens.ensures, c.from.ensures) in
    c.from_residual-in_err-number.ensures
    ∙ (sym (digits-over n i (get_or text i 0) (drop (suc i) text) digit many) ∙ (ap (digits_left n i) (sym (drop-cons text i 0 c.loop-i-test.true)) ∙ c.loop-i.invariant))

pub loop-i-preserved : goal.loop-i-preserved
loop-i-preserved c =
    let text = c.args.text.now in
    let i = c.loop-i.i in
    let n = c.loop-i.number in
    let digit : is_digit (get_or text i 0) ≡ true = sym c.is_digit.ensures ∙ c.if-not-is_digit.false in
    let is : c.in_ok-number.number ≡ 10 * n + (get_or text i 0 - 48) = grind (arith, common_steps, c.in_ok-number.ensures, c.in_ok-tens.ensures, c.from.ensures) in
    let few : 10 * n + (get_or text i 0 - 48) < 18446744073709551616 = grind (arith, common_steps, c.in_ok-number.ensures, c.in_ok-tens.ensures, c.from.ensures) in
    let more = digits-more n i (get_or text i 0) (drop (suc i) text) digit few in
    let o : i + 1 ≡ suc i = omega arith in
    ap (λ j. digits_left c.in_ok-number.number (i + 1) (drop j text)) o ∙ (ap (λ m. digits_left m (i + 1) (drop (suc i) text)) is ∙ (sym more ∙ (ap (digits_left n i) (sym (drop-cons text i 0 c.loop-i-test.true)) ∙ c.loop-i.invariant)))
