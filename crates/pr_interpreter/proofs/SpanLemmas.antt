use Rattle.std.proofs.Common.{◌≡◌, ℕ, ◌+◌, ◌-◌, ◌*◌, ◌/◌, ◌^◌, ◌<◌, ◌≤◌, arith, subst, refl}
use Rattle.std.proofs.Math.Nat.{div-lt_iff_lt-mul, mul-le-mul_right, lt-div-mul-add, le_of_mul-le-mul_right, mul-pos}
use Rattle.std.proofs.lemmas.Nat.{pow_pos, pow-add, shr_split}
use Rattle.pr_interpreter.specs.Spans.{IsWide, Holds, bit_length, drop_digits, shorten, widen}
use Rattle.pr_interpreter.specs.declared.span.Span.{Span}
use Rattle.pr_interpreter.specs.Machine.{IsNear}
use Rattle.pr_interpreter.proofs.BitLemmas.{pow_order, bit_length_above, excess_within}

-- a whole number of 2 ^ k, dropped and put back
pub floor_le : (n k : ℕ) → n / 2 ^ k * 2 ^ k ≤ n
floor_le n k = omega (arith, shr_split n k)

-- the same, rounded up
pub ceiling_ge : (n k : ℕ) → n ≤ (n + (2 ^ k - 1)) / 2 ^ k * 2 ^ k
ceiling_ge n k =
    let unit = pow_pos k in
    let above = lt-div-mul-add {a = n + (2 ^ k - 1)} {b = 2 ^ k} unit in
    omega arith

-- dropping digits rounds to few
pub ceiling_most : (n k digits : ℕ) → n < 2 ^ digits * 2 ^ k → (n + (2 ^ k - 1)) / 2 ^ k ≤ 2 ^ digits
ceiling_most n k digits h =
    let unit = pow_pos k in
    let fit : n + (2 ^ k - 1) < (2 ^ digits + 1) * 2 ^ k = omega arith in
    let below = (div-lt_iff_lt-mul {x = n + (2 ^ k - 1)} {y = 2 ^ digits + 1} unit).1 fit in
    omega arith

-- what a factor keeps
pub scaled_le : (a b u v q : ℕ) → a * u ≤ b → a * (v * u) * q ≤ b * v * q
scaled_le a b u v q h = omega (arith, mul-le-mul_right {m = a * u} {n = b} (v * q) h)

pub scaled_ge : (a b u v q : ℕ) → b ≤ a * u → b * v * q ≤ a * (v * u) * q
scaled_ge a b u v q h = omega (arith, mul-le-mul_right {m = b} {n = a * u} (v * q) h)

-- dropping digits keeps what a span holds
pub drop_holds : (k : ℕ) (s : Span) (p q : ℕ) → Holds s p q → Holds (drop_digits k s) p q
unfolding drop_digits
drop_holds k s p q h =
    let parts = pow-add 2 s.scale k in
    let down = scaled_le (s.low / 2 ^ k) s.low (2 ^ k) (2 ^ s.scale) q (floor_le s.low k) in
    let up = scaled_ge ((s.high + (2 ^ k - 1)) / 2 ^ k) s.high (2 ^ k) (2 ^ s.scale) q (ceiling_ge s.high k) in
    record { above = rw parts (omega (arith, down, h.above)); below = rw parts (omega (arith, up, h.below)) }

pub shorten_holds : (digits : ℕ) (s : Span) (p q : ℕ) → Holds s p q → Holds (shorten digits s) p q
unfolding shorten
shorten_holds digits s p q h = drop_holds (bit_length s.high - digits) s p q h

-- a bound that is divided out on both sides
pub below_cancel : (low m v w q p r : ℕ)
    → low * (v * w) * q ≤ p → p * m ≤ r * q * w → 0 < q * w → low * m * v ≤ r
below_cancel low m v w q p r above near pos =
    le_of_mul-le-mul_right {m = low * m * v} {n = r} {k = q * w}
    (omega (arith, mul-le-mul_right {m = low * (v * w) * q} {n = p} m above, near)) pos

pub above_cancel : (high m v w q p r : ℕ)
    → p ≤ high * (v * w) * q → r * q * w ≤ p * m → 0 < q * w → r ≤ high * m * v
above_cancel high m v w q p r below near pos =
    le_of_mul-le-mul_right {m = r} {n = high * m * v} {k = q * w}
    (omega (arith, mul-le-mul_right {m = p} {n = high * (v * w) * q} m below, near)) pos

-- a scale taken apart
pub scale_parts : (scale error : ℕ) → error ≤ scale → 2 ^ scale ≡ 2 ^ (scale - error) * 2 ^ error
scale_parts scale error h =
    let e : scale - error + error ≡ scale = omega arith in
    subst (λ (n : ℕ). 2 ^ n ≡ 2 ^ (scale - error) * 2 ^ error) e (pow-add 2 (scale - error) error)

-- widening holds what is near
pub widen_answers : (error : ℕ) (s : Span) (p q r : ℕ)
    → error ≤ s.scale → 0 < q → Holds s p q → IsNear error p q r → Holds (widen error s) r 1
unfolding widen
widen_answers error s p q r scale pos h near =
    let parts = scale_parts s.scale error scale in
    let positive = mul-pos pos (pow_pos error) in
    let low = rw parts at h.above in
    let high = rw parts at h.below in
    let down = below_cancel s.low (2 ^ error - 1) (2 ^ (s.scale - error)) (2 ^ error) q p r low near.above positive in
    let up = above_cancel s.high (2 ^ error + 1) (2 ^ (s.scale - error)) (2 ^ error) q p r high near.below positive in
    record { above = omega arith; below = omega arith }

-- what shortening leaves
pub record Bounds (digits : ℕ) (s t : Span) : Type 0 where
  pub ordered : t.low ≤ t.high
  pub high : t.high ≤ 2 ^ digits
  pub least : s.scale ≤ t.scale
  pub most : t.scale ≤ s.scale + 127

-- a number is below its digits and those that are dropped
pub digits_and_excess : (n digits : ℕ) → n < 2 ^ 127 → n < 2 ^ digits * 2 ^ (bit_length n - digits)
digits_and_excess n digits h =
    let wide : n < 2 ^ 128 = omega arith in
    let above = bit_length_above n wide in
    let order : bit_length n ≤ digits + (bit_length n - digits) = omega arith in
    let ordered = pow_order (bit_length n) (digits + (bit_length n - digits)) order in
    omega (arith, pow-add 2 digits (bit_length n - digits))

-- dropping keeps the order of the ends
pub dropped_order : (low high k : ℕ) → low ≤ high → low / 2 ^ k ≤ (high + (2 ^ k - 1)) / 2 ^ k
dropped_order low high k h =
    let unit = pow_pos k in
    let down = floor_le low k in
    let up = ceiling_ge high k in
    le_of_mul-le-mul_right {m = low / 2 ^ k} {n = (high + (2 ^ k - 1)) / 2 ^ k} {k = 2 ^ k} (omega arith) unit

pub shorten_bounds : (digits : ℕ) (s : Span) → IsWide s → Bounds digits s (shorten digits s)
unfolding shorten drop_digits
shorten_bounds digits s h =
    let k = bit_length s.high - digits in
    let within : k ≤ 127 = excess_within s.high digits (bit_length s.high) h.high refl in
    record {
      ordered = dropped_order s.low s.high k h.ordered;
      high = ceiling_most s.high k digits (digits_and_excess s.high digits h.high);
      least = omega arith;
      most = omega arith;
    }
