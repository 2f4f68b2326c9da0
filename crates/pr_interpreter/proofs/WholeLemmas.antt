use Rattle.std.proofs.Common.{◌≡◌, ℕ, zero, suc, ◌+◌, ◌-◌, ◌*◌, ◌/◌, ◌^◌, ◌<◌, ◌≤◌, ◌==◌, ℤ, pos, ◌≤ℤ◌, Bool, true}
use Rattle.std.proofs.Common.{false, nat_le, nat_lt, min, if◌then◌else◌, arith, sym, subst, refl, ap, ◌∙◌, inl, inr}
use Rattle.std.proofs.Common.{unsigned_abs, Option, Some, None}
use Rattle.std.proofs.lemmas.Bool.{eqb-true, lt-ltb, cases_lt}
use Rattle.std.proofs.lemmas.Int.{ints}
use Rattle.std.proofs.lemmas.Nat.{pow_pos, pow-add, div-mul-add}
use Rattle.std.proofs.Math.Nat.{div-mul-le_self, lt-div-mul-add, mul-div_cancel, mul-div-mul_right, div-eq_of_lt}
use Rattle.std.proofs.Math.Nat.{div-div-eq-div-mul, add-div_right, mul-pos}
use Rattle.pr_interpreter.specs.Machine.{unit_bits}
use Rattle.pr_interpreter.specs.Spans.{Holds, bit_length}
use Rattle.pr_interpreter.specs.Numbers.{HasSign, floor_of, ceiling_of, whole_of, floor}
use Rattle.pr_interpreter.specs.NumberLaws.{IsFloorFor, WholesAreCertain}
use Rattle.pr_interpreter.specs.declared.span.Span.{Span}
use Rattle.pr_interpreter.specs.declared.whole_numbers.Whole.{Whole}
use Rattle.pr_interpreter.specs.declared.number.Sign.{Sign}
use Rattle.pr_interpreter.specs.declared.number.Sign.TheVariants.{Plus, Minus, Either}
use Rattle.pr_interpreter.proofs.BitLemmas.{pow_order}

-- ---- how the code finds them

pub shifted_up : (n scale unit : ℕ) → unit ≤ scale → n * 2 ^ scale ≡ n * 2 ^ (scale - unit) * 2 ^ unit
shifted_up n scale unit h =
    let e : scale - unit + unit ≡ scale = omega arith in
    let parts = sym (pow-add 2 (scale - unit) unit) ∙ ap (λ (k : ℕ). 2 ^ k) e in
    let whole = ap (λ (t : ℕ). n * t) parts in
    omega arith

pub floor_up : (n scale unit : ℕ) → unit ≤ scale → n * 2 ^ (scale - unit) ≡ n * 2 ^ scale / 2 ^ unit
floor_up n scale unit h =
    let cancel = mul-div_cancel (n * 2 ^ (scale - unit)) {n = 2 ^ unit} (pow_pos unit) in
    sym cancel ∙ ap (λ (t : ℕ). t / 2 ^ unit) (sym (shifted_up n scale unit h))

pub unit_parts : (scale unit : ℕ) → scale ≤ unit → 2 ^ unit ≡ 2 ^ (unit - scale) * 2 ^ scale
unit_parts scale unit h =
    let e : unit - scale + scale ≡ unit = omega arith in
    sym (ap (λ (k : ℕ). 2 ^ k) e) ∙ pow-add 2 (unit - scale) scale

pub floor_down : (n scale unit : ℕ) → scale ≤ unit → n / 2 ^ (unit - scale) ≡ n * 2 ^ scale / 2 ^ unit
floor_down n scale unit h =
    let parts = unit_parts scale unit h in
    rw parts (sym (mul-div-mul_right {m = 2 ^ scale} n (2 ^ (unit - scale)) (pow_pos scale)))

-- a shift of 127 and more leaves nothing of an end
pub shift_capped : (n k : ℕ) → n < 2 ^ 127 → n / 2 ^ min k 127 ≡ n / 2 ^ k
shift_capped n k h = elim (cases_lt k 127) [
  | inl less ↦ let e : min k 127 ≡ k = omega arith in ap (λ (t : ℕ). n / 2 ^ t) e
  | inr more ↦
      let e : min k 127 ≡ 127 = omega arith in
      let ordered = pow_order 127 k more in
      let below : n < 2 ^ k = omega arith in
      ap (λ (t : ℕ). n / 2 ^ t) e ∙ div-eq_of_lt h ∙ sym (div-eq_of_lt below)
]

-- ---- what they say

pub floor_bounds : (low high m p u : ℕ) → 0 < u → low * p * 1 ≤ m → m ≤ high * p * 1 → low * p / u ≡ high * p / u
    → (low * p / u * u ≤ m) × (m < low * p / u * u + u)
floor_bounds low high m p u positive above below e =
    let down = div-mul-le_self (low * p) u in
    let up = lt-div-mul-add {a = high * p} {b = u} positive in
    let same = ap (λ (t : ℕ). t * u) e in
    (omega arith, omega arith)

pub ceiling_bounds : (low high m p u : ℕ) → 0 < u → low * p * 1 ≤ m → m ≤ high * p * 1
    → (low * p + (u - 1)) / u ≡ (high * p + (u - 1)) / u
    → (m ≤ (low * p + (u - 1)) / u * u) × ((low * p + (u - 1)) / u * u < m + u)
ceiling_bounds low high m p u positive above below e =
    let down = div-mul-le_self (low * p + (u - 1)) u in
    let up = lt-div-mul-add {a = high * p + (u - 1)} {b = u} positive in
    let same = ap (λ (t : ℕ). t * u) e in
    (omega arith, omega arith)

-- ends without a fraction are their own whole part
pub ceiling_up : (n scale unit : ℕ) → unit ≤ scale → n * 2 ^ (scale - unit)
    ≡ (n * 2 ^ scale + (2 ^ unit - 1)) / 2 ^ unit
ceiling_up n scale unit h =
    let rest : 2 ^ unit - 1 < 2 ^ unit = omega (arith, pow_pos unit) in
    let cancel = div-mul-add (n * 2 ^ (scale - unit)) (2 ^ unit) (2 ^ unit - 1) rest in
    sym cancel ∙ ap (λ (t : ℕ). (t + (2 ^ unit - 1)) / 2 ^ unit) (sym (shifted_up n scale unit h))

-- one more than the whole part of one less
pub ceiling_step : (m p k : ℕ) → 0 < p → 0 < k → ((m + 1) * p + (k * p - 1)) / (k * p) ≡ m / k + 1
ceiling_step m p k small large =
    let unit = mul-pos large small in
    let rest : p - 1 < p = omega arith in
    let e : (m + 1) * p + (k * p - 1) ≡ m * p + (p - 1) + k * p = omega arith in
    let inner = div-mul-add m p (p - 1) rest in
    let order : k * p ≡ p * k = omega arith in
    ap (λ (t : ℕ). t / (k * p)) e
    ∙ add-div_right (m * p + (p - 1)) unit
    ∙ ap (λ (t : ℕ). t + 1) (ap (λ (t : ℕ). (m * p + (p - 1)) / t) order
    ∙ sym (div-div-eq-div-mul (m * p + (p - 1)) p k) ∙ ap (λ (t : ℕ). t / k) inner)

pub ceiling_down : (n scale unit : ℕ) → scale ≤ unit → 0 < n → (n - 1) / 2 ^ (unit - scale) + 1
    ≡ (n * 2 ^ scale + (2 ^ unit - 1)) / 2 ^ unit
ceiling_down n scale unit h some =
    let parts = unit_parts scale unit h in
    let e : n - 1 + 1 ≡ n = omega arith in
    let step = ceiling_step (n - 1) (2 ^ scale) (2 ^ (unit - scale)) (pow_pos scale) (pow_pos (unit - scale)) in
    rw parts (sym step ∙ ap (λ (t : ℕ). (t * 2 ^ scale + (2 ^ (unit - scale) * 2 ^ scale - 1)) /
    (2 ^ (unit - scale) * 2 ^ scale)) e)

pub ceiling_none : (scale unit : ℕ) → 0 ≡ (0 * 2 ^ scale + (2 ^ unit - 1)) / 2 ^ unit
ceiling_none scale unit =
    let rest : 0 * 2 ^ scale + (2 ^ unit - 1) < 2 ^ unit = omega (arith, pow_pos unit) in sym (div-eq_of_lt rest)

pub some_if : (b : Bool) (w v : Whole) → (if b then Some w else None) ≡ Some v → (b ≡ true) × (w ≡ v)
some_if true w v e = (refl, cc)
some_if false w v e = absurd (cc)

-- a whole number that is not above 0
pub floor_below : (c : ℕ) (x : ℤ) → x ≤ℤ pos 0 → unsigned_abs x ≤ c * 2 ^ unit_bits
    → c * 2 ^ unit_bits < unsigned_abs x + 2 ^ unit_bits
    → IsFloorFor (nat_lt 0 c) c x
floor_below zero x sign above below = (omega (arith, ints), omega arith, omega arith)
floor_below (suc d) x sign above below =
    let some : 0 < suc d = omega arith in
    subst (λ (b : Bool). IsFloorFor b (suc d) x) (sym (lt-ltb 0 (suc d) some)) (sign, above, below)

pub whole_is : (s : Sign) (t : Span) (x : ℤ) (w : Whole) → HasSign s x → Holds t (unsigned_abs x) 1 → whole_of s t
    ≡ Some w
    → IsFloorFor w.negative w.magnitude x
unfolding floor_of ceiling_of
whole_is Plus t x w sign h e =
    let found = some_if (floor_of t.low t.scale == floor_of t.high t.scale)
    (record { negative = false; magnitude = floor_of t.low t.scale }) w e in
    let same = eqb-true (floor_of t.low t.scale) (floor_of t.high t.scale) found.0 in
    let bounds = floor_bounds t.low t.high (unsigned_abs x) (2 ^ t.scale) (2 ^ unit_bits) (pow_pos unit_bits) h.above
    h.below same in
    subst (λ (v : Whole). IsFloorFor v.negative v.magnitude x) found.1 (sign, bounds.0, bounds.1)
whole_is Minus t x w sign h e =
    let found = some_if (ceiling_of t.low t.scale == ceiling_of t.high t.scale)
    (record { negative = nat_lt 0 (ceiling_of t.low t.scale); magnitude = ceiling_of t.low t.scale }) w e in
    let same = eqb-true (ceiling_of t.low t.scale) (ceiling_of t.high t.scale) found.0 in
    let bounds = ceiling_bounds t.low t.high (unsigned_abs x) (2 ^ t.scale) (2 ^ unit_bits) (pow_pos unit_bits) h.above
    h.below same in
    subst (λ (v : Whole). IsFloorFor v.negative v.magnitude x) found.1
    (floor_below (ceiling_of t.low t.scale) x sign bounds.0 bounds.1)
whole_is Either t x w sign h e =
    let found = some_if (t.high == 0) (record { negative = false; magnitude = 0 }) w e in
    let none = eqb-true t.high 0 found.0 in
    let below = subst (λ (k : ℕ). unsigned_abs x ≤ k * 2 ^ t.scale * 1) none h.below in
    let size : unsigned_abs x ≡ 0 = omega arith in
    subst (λ (v : Whole). IsFloorFor v.negative v.magnitude x) found.1
    (omega (arith, ints), omega arith, omega (arith, pow_pos unit_bits))

pub whole_if : (b : Bool) (o : Option Whole) (w : Whole) → (if b then o else None) ≡ Some w → o ≡ Some w
whole_if true o w e = e
whole_if false o w e = absurd (cc)

pub wholes_are_certain : WholesAreCertain
unfolding floor
wholes_are_certain a x w h e =
    whole_is a.sign a.span x w h.sign h.magnitude (whole_if (nat_le (bit_length a.span.high + a.span.scale)
    (unit_bits + 40)) (whole_of a.sign a.span) w e)
