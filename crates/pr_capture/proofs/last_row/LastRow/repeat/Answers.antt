use Rattle.std.proofs.Common.{◌≡◌, ◌+◌, ◌<◌, ◌∷◌, ◌++◌, [], Some, false, ap, arith, subst, sym, ◌∙◌, drop, length, take}
use Rattle.std.proofs.lemmas.List.Folds.{length-prefix_len}
use Rattle.pr_base.specs.Digits.{is_digit}
use Rattle.pr_capture.specs.CsvSteps.{IsRepeat, digits_ahead}
use Rattle.pr_capture.specs.TableTimes.{instant_of}
use Rattle.pr_capture.proofs.DigitLemmas.{ahead-digits}
use Rattle.std.proofs.lemmas.List.{take_rest}
use Rattle.pr_capture.proofs.CsvRepeats.{counted-repeat, numbered-repeat, timed-repeat}
use Rattle.pr_capture.proofs.last_row.LastRow.repeat.Goals as goal

pub returns-in_ok-row-in-Counted-clause-row : goal.returns-in_ok-row-in-Counted-clause-row
returns-in_ok-row-in-Counted-clause-row c = λ probes knows.
    let last = c.args.self.now in
    let tail = c.behind_first-tail.ensures.behind ∙ ap (drop last.from) c.as_slice.ensures.value in
    counted-repeat probes c.args.layout c.args.number c.in-Counted.rate c.args.moment c.args.block.now c.behind_first-tail.result.now last c.in_ok-levels.levels c.in_ok-row-in-Counted.row c.next.result
    c.row_if.result c.in-Counted.is c.in_ok-levels.was tail c.next.ensures c.row_if.ensures c.in_ok-row-in-Counted.was (c.leads.ensures.front c.if-not-leads.false) knows

pub returns-in_ok-row-in-Timed-clause-row : goal.returns-in_ok-row-in-Timed-clause-row
returns-in_ok-row-in-Timed-clause-row c = λ probes knows.
    let last = c.args.self.now in
    let block = c.args.block.now in
    let time = c.in_ok-time-in-Timed.time in
    let bytes = c.behind_first-tail.result.now in
    let tail = c.behind_first-tail.ensures.behind ∙ ap (drop last.from) c.as_slice.ensures.value in
    let front : take (length bytes + 1) (drop time.len block) ≡ bytes ++ 10 ∷ [] = rw take_rest at (c.leads-in-Timed.ensures.front c.if-not-leads-3.false) in
    let ahead = c.in_ok-time-in-Timed.ensures.plain in
    timed-repeat probes c.args.layout c.args.number c.in-Timed.unit time.len c.args.moment block bytes ahead.whole ahead.decimals last c.in_ok-levels.levels
    (record { is_negative = false; micros = time.micros }) c.in_ok-row-in-Timed.row c.at-in-Timed.result c.row_if-in-Timed.result c.in-Timed.is c.in_ok-levels.was tail ahead.plain
    (ap (instant_of false) ahead.spells) c.at-in-Timed.ensures c.row_if-in-Timed.ensures c.in_ok-row-in-Timed.was front knows

pub returns-in_ok-row-in-Numbered-clause-row : goal.returns-in_ok-row-in-Numbered-clause-row
returns-in_ok-row-in-Numbered-clause-row c = λ probes knows.
    let last = c.args.self.now in
    let block = c.args.block.now in
    let bytes = c.behind_first-tail.result.now in
    let tail = c.behind_first-tail.ensures.behind ∙ ap (drop last.from) c.as_slice.ensures.value in
    let digits = c.in_ok-digits-in-Numbered.digits in
    let ahead : digits_ahead block ≡ Some digits = sym c.digits_ahead.ensures.digits ∙ c.in_ok-digits-in-Numbered.was in
    let is = ahead-digits block digits ahead in
    let front : take (length bytes + 1) (drop digits.len block) ≡ bytes ++ 10 ∷ [] = rw take_rest at (c.leads-else-digits-eq0.ensures.front c.if-not-leads-2.false) in
    let some : 0 < digits.len = omega (arith, c.if-digits-eq0.false) in
    let there = numbered-repeat probes c.args.layout c.args.number c.in-Numbered.step c.in-Numbered.rate digits.number c.args.moment block bytes last c.in_ok-levels.levels c.in_ok-sample-in-Numbered.sample
    c.in_ok-row-in-Numbered.row c.at.result c.row_if-in-Numbered.result c.in-Numbered.is c.in_ok-levels.was tail (subst (λ j. 0 < j) (is.0 ∙ sym (length-prefix_len is_digit block)) some) is.1
    (sym c.sample_at.ensures ∙ c.in_ok-sample-in-Numbered.was) c.at.ensures c.row_if-in-Numbered.ensures c.in_ok-row-in-Numbered.was (ap (λ j. take (length bytes + 1) (drop j block)) (sym is.0) ∙ front) knows in
    subst (λ j. IsRepeat probes c.args.layout c.args.number c.args.moment (take (j + length bytes + 1) block) c.in_ok-row-in-Numbered.row) (sym is.0) there
