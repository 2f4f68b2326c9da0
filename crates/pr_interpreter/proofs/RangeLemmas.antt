use Rattle.std.proofs.Common.{◌≡◌, ℕ, zero, suc, ◌+◌, ◌*◌, ◌^◌, ◌<◌, ◌≤◌, ◌==◌, ◌||◌, ◌⊎◌, Bool, true, false, nat_le}
use Rattle.std.proofs.Common.{nat_lt, if◌then◌else◌, arith, refl, inl, inr, Result, Ok, Err}
use Rattle.std.proofs.Math.Nat.{mul-lt-mul_of_pos_right, mul-le-mul_right, two-pow-succ}
use Rattle.std.proofs.lemmas.Bool.{and_parts, or_cases, leb-true, ltb-true, eqb-true, cases_eq}
use Rattle.std.proofs.lemmas.Nat.{pow_pos, pow-add}
use Rattle.pr_interpreter.specs.Machine.{smallest_bits, largest_bits}
use Rattle.pr_interpreter.specs.Spans.{bit_length, is_in_range, is_too_large, in_range}
use Rattle.pr_interpreter.specs.declared.span.Span.{Span}
use Rattle.pr_interpreter.specs.declared.fault.NumberFault.{NumberFault}
use Rattle.pr_interpreter.specs.declared.fault.NumberFault.TheVariants.{NotCertain, Overflow}
use Rattle.pr_interpreter.proofs.BitLemmas.{pow_order, bit_length_above, bit_length_below}

-- an if that has a result took its first branch
pub ok_first : (b : Bool) (s t : Span) (fault : NumberFault) → (if b then Ok s else Err fault) ≡ Ok t → (b ≡ true)
    × (s ≡ t)
ok_first true s t fault e = (refl, cc)
ok_first false s t fault e = absurd (cc)

-- either branch of an if
pub either_branch : (b : Bool) (x y : Result Span NumberFault) (t : Span)
    → (if b then x else y) ≡ Ok t → ((b ≡ true) × (x ≡ Ok t)) ⊎ ((b ≡ false) × (y ≡ Ok t))
either_branch true x y t e = inl (refl, e)
either_branch false x y t e = inr (refl, e)

-- a length that fits is a number that fits
pub fits_below : (n k m : ℕ) → n < 2 ^ 128 → bit_length n + k ≤ m → n * 2 ^ k < 2 ^ m
fits_below n k m wide fit =
    let above = bit_length_above n wide in
    let product = mul-lt-mul_of_pos_right {m = n} {n = 2 ^ bit_length n} {k = 2 ^ k} above (pow_pos k) in
    let parts = pow-add 2 (bit_length n) k in
    let ordered = pow_order (bit_length n + k) m fit in
    omega arith

-- half of the power of 2 of a length
half_of_length : (n length : ℕ) → 0 < n → n < 2 ^ length → 2 ^ length ≤ 2 * n + 1 → (j : ℕ) × (length ≡ suc j)
    × (2 ^ j ≤ n)
half_of_length n zero pos above below = absurd (omega arith)
half_of_length n (suc j) pos above below = let double = two-pow-succ j in (j, refl, omega arith)

-- a length above m is a number of at least 2 ^ m
pub fits_above : (n k m : ℕ) → 0 < n → n < 2 ^ 128 → m < bit_length n + k → 2 ^ m ≤ n * 2 ^ k
fits_above n k m pos wide long =
    let half = half_of_length n (bit_length n) pos (bit_length_above n wide) (bit_length_below n wide) in
    let e : bit_length n ≡ suc half.0 = half.1 in
    let order : m ≤ half.0 + k = omega arith in
    let ordered = pow_order m (half.0 + k) order in
    let parts = pow-add 2 half.0 k in
    let product = mul-le-mul_right {m = 2 ^ half.0} {n = n} (2 ^ k) half.2 in
    omega arith

-- the machine can hold the magnitudes of a span
pub record InRange (s : Span) : Type 0 where
  pub small : s.high * 2 ^ s.scale < 2 ^ largest_bits
  pub large : (s.low ≡ 0) ⊎ (2 ^ smallest_bits ≤ s.low * 2 ^ s.scale)
  pub scale : s.scale ≤ largest_bits

-- what the test of a span tells
pub in_range_facts : (s : Span) → s.low ≤ s.high → s.high < 2 ^ 127 → is_in_range s ≡ true → InRange s
unfolding is_in_range
in_range_facts s ordered high e =
    let wide : s.high < 2 ^ 128 = omega arith in
    let wide_low : s.low < 2 ^ 128 = omega arith in
    let parts = and_parts (nat_le (bit_length s.high + s.scale) largest_bits)
    (s.low == 0 || nat_lt smallest_bits (bit_length s.low + s.scale)) e in
    let fit = leb-true (bit_length s.high + s.scale) largest_bits parts.0 in
    record {
      small = fits_below s.high s.scale largest_bits wide fit;
      large = elim (cases_eq s.low 0) [
        | inl none ↦ inl none
        | inr some ↦
            let pos : 0 < s.low = omega arith in
            elim (or_cases (s.low == 0) (nat_lt smallest_bits (bit_length s.low + s.scale)) parts.1) [
              | inl none ↦ inl (eqb-true s.low 0 none)
              | inr long ↦ inr (fits_above s.low s.scale smallest_bits pos wide_low
                  (ltb-true smallest_bits (bit_length s.low + s.scale) long))
            ]
      ];
      scale = omega arith;
    }

-- a span that is answered is that span, and in range
pub in_range_ok : (s t : Span) → in_range s ≡ Ok t → (is_in_range s ≡ true) × (s ≡ t)
unfolding in_range
in_range_ok s t e = ok_first (is_in_range s) s t (if is_too_large s then Overflow else NotCertain) e

pub in_range_answer : (s t : Span) → s.low ≤ s.high → s.high < 2 ^ 127 → in_range s ≡ Ok t → (s ≡ t) × InRange s
in_range_answer s t ordered high e =
    let ok = in_range_ok s t e in (ok.1, in_range_facts s ordered high ok.0)
