-- Numbers by their digits.
use Rattle.std.proofs.Common.{◌≡◌, ℕ, zero, suc, ◌+◌, ◌-◌, ◌*◌, ◌<◌, ◌≤◌, true, false, List, [], ◌∷◌, length, take, drop, get_or, refl, ap, ◌∙◌, arith, drop-cons, nat_lt, Option, Some, None}
use Rattle.std.proofs.lemmas.Grind.{common_steps}
use Rattle.std.specs.List.{prefix_len}
use Rattle.pr_base.specs.Digits.{is_digit}
use Rattle.pr_capture.specs.CsvSteps.{digits_ahead, digits_left}
use Rattle.pr_capture.specs.Numbers.{digits_in, number_from, onward, with_zeros}
use Rattle.pr_capture.specs.declared.numbers.Digits.{Digits}

-- one more digit is one too many
pub number-over : (n : ℕ) (ds : List ℕ) (i : ℕ) → i < length ds → 18446744073709551616 ≤ 10 * n → number_from n (drop i ds) ≡ None
number-over n ds i h k =
    let e : nat_lt (10 * n + (get_or ds i 0 - 48)) 18446744073709551616 ≡ false = grind (arith, common_steps) in
    rw (drop-cons ds i 0 h, e) refl

-- a zero more after a number
pub zero-more : (k n m : ℕ) → 0 < k → number_from n (48 ∷ []) ≡ Some m → with_zeros k n ≡ with_zeros (k - 1) m
zero-more zero n m h e = absurd (omega arith)
zero-more (suc k) n m h e =
    let p : k ≡ suc k - 1 = omega arith in ap (λ o. onward o (λ v. with_zeros k v)) e ∙ ap (λ i. with_zeros i m) p

-- Digits in front of a text, one by one.

-- no digit ends them
pub digits-end : (n i b : ℕ) (bs : List ℕ) → is_digit b ≡ false → digits_left n i (b ∷ bs) ≡ Some (record { len = i; number = n })
digits-end n i b bs e = let o : i + 0 ≡ i = omega arith in rw (e, o) refl

pub digits-none : (n i : ℕ) → digits_left n i [] ≡ Some (record { len = i; number = n })
digits-none n i = let o : i + 0 ≡ i = omega arith in rw o refl

-- a digit more, if the number has room
digits-step : (n i b : ℕ) (bs : List ℕ) → is_digit b ≡ true
    → digits_left n i (b ∷ bs) ≡ onward (number_from n (b ∷ digits_in bs)) (λ m. Some (record { len = (i + 1) + prefix_len is_digit bs; number = m }))
digits-step n i b bs e =
    let k : ℕ = prefix_len is_digit bs in
    let more : prefix_len is_digit (b ∷ bs) ≡ suc k = rw e (omega arith) in
    let o : i + suc k ≡ (i + 1) + k = omega arith in
    let made : ℕ → ℕ → Option Digits = λ j len. onward (number_from n (take j (b ∷ bs))) (λ m. Some (record { len = len; number = m })) in
    ap (λ j. made j (i + j)) more ∙ ap (made (suc k)) o

pub digits-more : (n i b : ℕ) (bs : List ℕ) → is_digit b ≡ true → 10 * n + (b - 48) < 18446744073709551616 → digits_left n i (b ∷ bs) ≡ digits_left (10 * n + (b - 48)) (i + 1) bs
digits-more n i b bs e few =
    let room : nat_lt (10 * n + (b - 48)) 18446744073709551616 ≡ true = grind (arith, common_steps) in
    digits-step n i b bs e ∙ rw room refl

pub digits-over : (n i b : ℕ) (bs : List ℕ) → is_digit b ≡ true → 18446744073709551616 ≤ 10 * n + (b - 48) → digits_left n i (b ∷ bs) ≡ None
digits-over n i b bs e many =
    let full : nat_lt (10 * n + (b - 48)) 18446744073709551616 ≡ false = grind (arith, common_steps) in
    digits-step n i b bs e ∙ rw full refl

-- what they say of all
pub ahead-digits : (text : List ℕ) (d : Digits) → digits_ahead text ≡ Some d → (d.len ≡ prefix_len is_digit text) × (number_from 0 (digits_in text) ≡ Some d.number)
ahead-digits text d h = by (number_from 0 (digits_in text)) refl h
  where
    by : (v : Option ℕ) → number_from 0 (digits_in text) ≡ v → onward v (λ m. Some (record { len = 0 + prefix_len is_digit text; number = m })) ≡ Some d
        → (d.len ≡ prefix_len is_digit text) × (number_from 0 (digits_in text) ≡ Some d.number)
    by None e k = absurd (cc)
    by (Some n) e k =
        let made : Digits = record { len = 0 + prefix_len is_digit text; number = n } in
        let is : made ≡ d = cc in
        let len : 0 + prefix_len is_digit text ≡ d.len = ap (λ (v : Digits). v.len) is in
        let number : n ≡ d.number = ap (λ (v : Digits). v.number) is in
        (omega (arith, len), e ∙ ap Some number)
