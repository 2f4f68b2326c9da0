use Rattle.std.proofs.Common.{◌≡◌, ℕ, ◌+◌, ◌≤◌, ◌||◌, false, not, nat_le, arith, inl, inr, Option, Some, None, Result}
use Rattle.std.proofs.Common.{Ok}
use Rattle.std.proofs.lemmas.Bool.{cases_Bool, leb-true}
use Rattle.pr_interpreter.specs.declared.values.Stop.{Stop}
use Rattle.pr_interpreter.specs.declared.whole_numbers.Whole.{Whole}
use Rattle.pr_interpreter.specs.Functions.{whole_to, whole_within}
use Rattle.pr_interpreter.specs.Numbers.{Known, floor, order_of, whole_number, zero_number}
use Rattle.pr_interpreter.specs.Values.{is_below}

abbrev pub whole_found : ℕ → Result ℕ Stop
whole_found k = Ok k

pub within_fits : (greatest k : ℕ) (w : Option Whole) → whole_within greatest w ≡ whole_found k → k ≤ greatest
within_fits greatest k None e = absurd (cc)
within_fits greatest k (Some w) e =
    elim (cases_Bool w.negative) [
      | inl hit ↦ let none = rw hit at e in absurd (cc)
      | inr miss ↦ elim (cases_Bool (nat_le w.magnitude greatest)) [
        | inl fits ↦
            let found : whole_found w.magnitude ≡ whole_found k = rw (miss, fits) at e in
            let same : w.magnitude ≡ k = cc in
            let below = leb-true w.magnitude greatest fits in omega arith
        | inr more ↦ let none = rw (miss, more) at e in absurd (cc)
      ]
    ]

-- the whole number of a number is at most the greatest that is taken
pub whole_fits : (greatest k : ℕ) (n : Known) → whole_to greatest n ≡ whole_found k → k ≤ greatest
unfolding whole_to
whole_fits greatest k n e =
    let low = is_below (order_of n zero_number) in
    let high = not (order_of n (whole_number false (greatest + 1))).less in
    elim (cases_Bool (low || high)) [
      | inl hit ↦ let none = rw hit at e in absurd (cc)
      | inr miss ↦ within_fits greatest k (floor n) (rw miss at e)
    ]
