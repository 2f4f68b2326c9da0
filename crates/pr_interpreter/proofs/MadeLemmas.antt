use Rattle.std.proofs.Common.{◌≡◌, ℕ, ◌*◌, ◌^◌, ◌≤◌, ℤ, pos, neg_ℤ, ◌≤ℤ◌, true, false, arith, sym, subst, unsigned_abs}
use Rattle.std.proofs.lemmas.Int.{ints}
use Rattle.pr_interpreter.specs.Machine.{unit_bits}
use Rattle.pr_interpreter.specs.Numbers.{Encloses, whole_number}
use Rattle.pr_interpreter.specs.NumberLaws.{whole_value, WholeNumbersAreExact, MagnitudesAreCertain}

pub plus_is : (x : ℤ) (m : ℕ) → pos 0 ≤ℤ x → m * 1 ≤ unsigned_abs x → unsigned_abs x ≤ m * 1 → x ≡ pos m
plus_is x m sign above below = omega (arith, ints)

pub minus_is : (x : ℤ) (m : ℕ) → x ≤ℤ pos 0 → m * 1 ≤ unsigned_abs x → unsigned_abs x ≤ m * 1 → x ≡ neg_ℤ (pos m)
minus_is x m sign above below = omega (arith, ints)

pub plus_has : (m : ℕ) → (pos 0 ≤ℤ pos m) × (m * 1 ≤ unsigned_abs (pos m)) × (unsigned_abs (pos m) ≤ m * 1)
plus_has m = (omega (arith, ints), omega (arith, ints), omega (arith, ints))

pub minus_has : (m : ℕ) → (neg_ℤ (pos m) ≤ℤ pos 0) × (m * 1 ≤ unsigned_abs (neg_ℤ (pos m)))
    × (unsigned_abs (neg_ℤ (pos m)) ≤ m * 1)
minus_has m = (omega (arith, ints), omega (arith, ints), omega (arith, ints))

pub plus_encloses : (magnitude : ℕ) → Encloses (whole_number false magnitude) (whole_value false magnitude)
plus_encloses magnitude =
    let has = plus_has (magnitude * 2 ^ unit_bits) in
    record { sign = has.0; magnitude = record { above = has.1; below = has.2 } }

pub minus_encloses : (magnitude : ℕ) → Encloses (whole_number true magnitude) (whole_value true magnitude)
minus_encloses magnitude =
    let has = minus_has (magnitude * 2 ^ unit_bits) in
    record { sign = has.0; magnitude = record { above = has.1; below = has.2 } }

pub whole_numbers_are_exact : WholeNumbersAreExact
whole_numbers_are_exact false magnitude x = (
  λ (h : Encloses (whole_number false magnitude) x). plus_is x (magnitude * 2 ^ unit_bits) h.sign h.magnitude.above
      h.magnitude.below,
  λ (e : x ≡ whole_value false magnitude). subst (λ (z : ℤ). Encloses (whole_number false magnitude) z) (sym e)
      (plus_encloses magnitude),
)
whole_numbers_are_exact true magnitude x = (
  λ (h : Encloses (whole_number true magnitude) x). minus_is x (magnitude * 2 ^ unit_bits) h.sign h.magnitude.above
      h.magnitude.below,
  λ (e : x ≡ whole_value true magnitude). subst (λ (z : ℤ). Encloses (whole_number true magnitude) z) (sym e)
      (minus_encloses magnitude),
)

pub size_of_size : (x : ℤ) → unsigned_abs (pos (unsigned_abs x)) ≡ unsigned_abs x
size_of_size x = omega (arith, ints)

pub magnitudes_are_certain : MagnitudesAreCertain
magnitudes_are_certain a x h = record { sign = omega (arith, ints); magnitude = rw (size_of_size x) h.magnitude }
