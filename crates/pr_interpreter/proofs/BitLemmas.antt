use Rattle.std.proofs.Common.{◌≡◌, ℕ, ◌+◌, ◌-◌, ◌*◌, ◌^◌, ◌<◌, ◌≤◌, suc, arith, subst, inl, inr}
use Rattle.std.proofs.Math.Nat.{pow-le-pow_right, two-pow-succ, mul-le-mul}
use Rattle.std.proofs.lemmas.Bool.{cases_lt}
use Rattle.std.proofs.lemmas.Nat.{leading_length}
use lib.Count.{count_leading_zeros}
use Rattle.pr_interpreter.specs.Spans.{bit_length, widen, IsWide}
use Rattle.pr_interpreter.specs.declared.span.Span.{Span}

-- powers of 2 in order
pub pow_order : (i j : ℕ) → i ≤ j → 2 ^ i ≤ 2 ^ j
pow_order i j h = let two : 0 < 2 = omega arith in pow-le-pow_right two h

-- a number is below the power of 2 of its length
pub bit_length_above : (n : ℕ) → n < 2 ^ 128 → n < 2 ^ bit_length n
unfolding bit_length
bit_length_above n h =
    let f = leading_length 128 n h in
    let e : f.0 ≡ 128 - count_leading_zeros 128 n = omega (arith, f.1) in
    subst (λ (m : ℕ). n < 2 ^ m) e f.2

-- and at least half of it
pub bit_length_below : (n : ℕ) → n < 2 ^ 128 → 2 ^ bit_length n ≤ 2 * n + 1
unfolding bit_length
bit_length_below n h =
    let f = leading_length 128 n h in
    let e : f.0 ≡ 128 - count_leading_zeros 128 n = omega (arith, f.1) in
    subst (λ (m : ℕ). 2 ^ m ≤ 2 * n + 1) e f.3

pub bit_length_within : (n : ℕ) → bit_length n ≤ 128
unfolding bit_length
bit_length_within n = omega arith

-- a number below a power of 2 is no longer than its exponent
pub bit_length_at_most : (n k : ℕ) → n < 2 ^ 128 → n < 2 ^ k → bit_length n ≤ k
bit_length_at_most n k h below =
    elim (cases_lt k (bit_length n)) [
      | inl longer ↦
          let double = two-pow-succ k in
          let ordered = pow_order (suc k) (bit_length n) longer in
          let half = bit_length_below n h in
          omega arith
      | inr within ↦ within
    ]

-- what a shift may be
pub excess_within : (n digits length : ℕ) → n < 2 ^ 127 → length ≡ bit_length n → length - digits ≤ 127
excess_within n digits length h e =
    let wide : n < 2 ^ 128 = omega arith in
    let most = bit_length_at_most n 127 wide h in
    omega arith

-- rounding up does not overflow
pub round_fits : (n k : ℕ) → n < 2 ^ 127 → k ≤ 127 → n + (2 ^ k - 1) < 2 ^ 128
round_fits n k h within = let ordered = pow_order k 127 within in omega arith

-- widening does not overflow
pub widen_fits : (high error : ℕ) → high ≤ 2 ^ 40 → error ≤ 32 → high * (2 ^ error + 1) < 2 ^ 73
widen_fits high error h within =
    let ordered = pow_order error 32 within in
    let unit : 2 ^ error + 1 ≤ 2 ^ 32 + 1 = omega arith in
    let product = mul-le-mul h unit in
    omega arith

pub widened_ordered : (low high error : ℕ) → low ≤ high → low * (2 ^ error - 1) ≤ high * (2 ^ error + 1)
widened_ordered low high error h =
    let less : 2 ^ error - 1 ≤ 2 ^ error + 1 = omega arith in mul-le-mul h less

pub widened_wide : (error : ℕ) (s : Span)
    → error ≤ 32 → s.low ≤ s.high → s.high ≤ 2 ^ 40 → s.scale ≤ 1000 → IsWide (widen error s)
unfolding widen
widened_wide error s small ordered short scale =
    let fits = widen_fits s.high error short small in
    record { ordered = widened_ordered s.low s.high error ordered; high = omega arith; scale = omega arith }

-- what an end is raised to
pub raise_fits : (end count : ℕ) → end ≤ 2 ^ 40 → count ≤ 86 → end * 2 ^ count ≤ 2 ^ 126
raise_fits end count h within =
    let ordered = pow_order count 86 within in
    let product = mul-le-mul h ordered in
    omega arith
