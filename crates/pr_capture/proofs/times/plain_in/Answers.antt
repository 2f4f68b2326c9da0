use Rattle.std.proofs.Common.{◌≡◌, ◌+◌, ◌<◌, ◌∙◌, Some, ap, arith, drop, length, subst, sym, take}
use Rattle.std.proofs.lemmas.Grind.{common_steps}
use Rattle.std.proofs.lemmas.List.{take_rest}
use Rattle.pr_capture.specs.CsvSteps.{IsTimeAhead, decimals_len, digits_ahead}
use Rattle.pr_capture.proofs.CsvRepeats.{digits-ahead, plain-front}
use Rattle.pr_capture.proofs.times.plain_in.Goals as goal

pub returns-then-decimals_len-eq0-clause-plain : goal.returns-then-decimals_len-eq0-clause-plain
returns-then-decimals_len-eq0-clause-plain c =
    let text = c.args.text.now in
    let digits = c.in_ok-digits.digits in
    let ahead : digits_ahead text ≡ Some digits = sym c.digits_ahead.ensures.digits ∙ c.in_ok-digits.was in
    subst (λ u. IsTimeAhead u text (record { len = digits.len; micros = digits.number })) (sym c.if-unit-eq6.true)
    (digits-ahead text digits ahead (omega (arith, c.if-digits-gt0.true)))

pub returns-clause-plain : goal.returns-clause-plain
returns-clause-plain c =
    let count = c.digit_count-count.result in
    let text = c.args.text.now in
    let some : 0 < length (take count text) = grind (arith, common_steps, c.is_empty.ensures, c.if-is_empty.false) in
    let n = c.decimals_len-len.result in
    let len : n ≡ decimals_len (drop count text) = rw take_rest at c.decimals_len-len.ensures.len in
    let cut : c.behind_first-decimals.result.now ≡ drop 1 (take n (drop count text)) = rw take_rest at c.behind_first-decimals.ensures.behind in
    let decimals : c.behind_first-decimals.result.now ≡ drop 1 (take (decimals_len (drop count text)) (drop count text)) =
    cut ∙ ap (λ i. drop 1 (take i (drop count text))) len in
    record {
      whole = take count text;
      decimals = c.behind_first-decimals.result.now;
      plain = plain-front _ count text _ c.digit_count-count.ensures.count some decimals (ap (λ i. count + i) len);
      spells = rw (sym c.from.ensures) (sym c.micros_of.ensures ∙ c.in_ok-micros_of.was);
    }
