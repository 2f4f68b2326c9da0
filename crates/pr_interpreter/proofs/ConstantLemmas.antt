use Rattle.std.proofs.Common.{◌≡◌, ℕ, pos, ◌+◌, ◌-◌, ◌*◌, ◌/◌, ◌^◌, ◌<◌, ◌≤◌, Bool, true, false, nat_le, if◌then◌else◌}
use Rattle.std.proofs.Common.{arith, sym, ap, ◌∙◌, inl, inr, Ok, Err}
use Rattle.std.proofs.lemmas.Bool.{leb-true}
use Rattle.std.proofs.lemmas.Int.{ints}
use Rattle.std.proofs.lemmas.Nat.{pow-add}
use Rattle.std.proofs.Math.Nat.{mul-le-mul, mul-le-mul_right, div-mul-le_self, div-le_self}
use Rattle.pr_interpreter.specs.Machine.{unit_bits}
use Rattle.pr_interpreter.specs.Spans.{IsWide, Holds, answer}
use Rattle.pr_interpreter.specs.Numbers.{Known, Encloses, signed, quotient_digits, quotient_scale}
use Rattle.pr_interpreter.specs.Constants.{least, greatest, exponent_of, times_ten, over_ten, scaled_span, error_after}
use Rattle.pr_interpreter.specs.Constants.{value_of, MayRead, ConstantsAreCertain}
use Rattle.pr_interpreter.specs.declared.constants.Tens.{Tens}
use Rattle.pr_interpreter.specs.declared.constants.Tens.TheVariants.{Times, Over}
use Rattle.pr_interpreter.specs.declared.number.Sign.TheVariants.{Plus}
use Rattle.pr_interpreter.specs.declared.fault.NumberFault.TheVariants.{NotCertain}
use Rattle.pr_interpreter.proofs.DecimalLemmas.{five_fits, five_pos, tens_split}
use Rattle.pr_interpreter.proofs.PrintingLawLemmas.{ten_pos}
use Rattle.pr_interpreter.proofs.NumberLemmas.{ceiling_of, known_branch, quotient_order, signed_encloses}

-- ---- the spans fit

pub times_fits : (end n : ℕ) → n ≤ 37 → end ≤ 2 ^ 33 → end * 5 ^ n < 2 ^ 127
times_fits end n h small = let most = five_fits n h in let product = mul-le-mul small most in omega arith

pub times_ordered : (low high f : ℕ) → low ≤ high → low * f ≤ high * f
times_ordered low high f h = mul-le-mul_right {m = low} {n = high} f h

pub over_ordered : (low high n : ℕ) → low ≤ high
    → low * 2 ^ quotient_digits / 5 ^ n ≤ (high * 2 ^ quotient_digits + (5 ^ n - 1)) / 5 ^ n
over_ordered low high n h =
    let raised = mul-le-mul_right {m = low} {n = high} (2 ^ quotient_digits) h in
    let same : 5 ^ n ≤ 5 ^ n = omega arith in
    quotient_order (low * 2 ^ quotient_digits) (high * 2 ^ quotient_digits) (5 ^ n) (5 ^ n) raised (five_pos n) same

pub over_fits : (high n : ℕ) → n ≤ 37 → high ≤ 2 ^ 33 → (high * 2 ^ quotient_digits + (5 ^ n - 1)) / 5 ^ n < 2 ^ 127
over_fits high n h small =
    let most = five_fits n h in
    let less = div-le_self (high * 2 ^ quotient_digits + (5 ^ n - 1)) (5 ^ n) in
    omega arith

pub times_wide : (n low high : ℕ) → n ≤ 37 → low ≤ high → high ≤ 2 ^ 33 → IsWide (times_ten n low high)
times_wide n low high h order small =
    record { ordered = times_ordered low high (5 ^ n) order; high = times_fits high n h small; scale = omega arith }

pub over_wide : (n low high : ℕ) → n ≤ 37 → low ≤ high → high ≤ 2 ^ 33 → IsWide (over_ten n low high)
over_wide n low high h order small =
    record { ordered = over_ordered low high n order; high = over_fits high n h small; scale = omega arith }

-- ---- and have what the machine may read

pub times_parts : (a f p u m : ℕ) → a * u ≤ m → a * f * (u * p) * 1 ≤ m * (p * f)
times_parts a f p u m h = let product = mul-le-mul_right {m = a * u} {n = m} (p * f) h in omega arith

pub times_parts_above : (a f p u m : ℕ) → m ≤ a * u → m * (p * f) ≤ a * f * (u * p) * 1
times_parts_above a f p u m h = let product = mul-le-mul_right {m = m} {n = a * u} (p * f) h in omega arith

pub times_holds : (n low high m : ℕ) → low * 2 ^ unit_bits ≤ m → m ≤ high * 2 ^ unit_bits
    → Holds (times_ten n low high) (m * 10 ^ n) 1
times_holds n low high m above below =
    let power = pow-add 2 unit_bits n in
    let ten = tens_split n in
    record {
      above = rw (power, ten) (times_parts low (5 ^ n) (2 ^ n) (2 ^ unit_bits) m above);
      below = rw (power, ten) (times_parts_above high (5 ^ n) (2 ^ n) (2 ^ unit_bits) m below);
    }

pub over_parts : (c low f p q d s m : ℕ) → p * q ≡ s → c * f ≤ low * d → low * (d * s) ≤ m → c * p * (q * f) ≤ m
over_parts c low f p q d s m e whole h =
    let same = ap (λ (t : ℕ). c * f * t) e in
    let product = mul-le-mul_right {m = c * f} {n = low * d} s whole in
    omega arith

pub over_parts_above : (c high f p q d s m : ℕ) → p * q ≡ s → high * d ≤ c * f → m ≤ high * (d * s)
    → m ≤ c * p * (q * f)
over_parts_above c high f p q d s m e whole h =
    let same = ap (λ (t : ℕ). c * f * t) e in
    let product = mul-le-mul_right {m = high * d} {n = c * f} s whole in
    omega arith

pub over_holds : (n low high m : ℕ) → n ≤ 37 → low * 2 ^ unit_bits ≤ m → m ≤ high * 2 ^ unit_bits
    → Holds (over_ten n low high) m (10 ^ n)
over_holds n low high m h above below =
    let sum : quotient_scale - n + n ≡ quotient_scale = omega arith in
    let power = sym (pow-add 2 (quotient_scale - n) n) ∙ ap (λ (k : ℕ). 2 ^ k) sum in
    let ten = tens_split n in
    record {
      above = rw ten (over_parts (low * 2 ^ quotient_digits / 5 ^ n) low (5 ^ n) (2 ^ (quotient_scale - n)) (2 ^ n)
          (2 ^ quotient_digits) (2 ^ quotient_scale) m power (div-mul-le_self (low * 2 ^ quotient_digits) (5 ^ n))
          above);
      below = rw ten (over_parts_above ((high * 2 ^ quotient_digits + (5 ^ n - 1)) / 5 ^ n) high (5 ^ n)
          (2 ^ (quotient_scale - n)) (2 ^ n)
          (2 ^ quotient_digits) (2 ^ quotient_scale) m power
          (ceiling_of (high * 2 ^ quotient_digits) (5 ^ n) (five_pos n)) below);
    }

pub error_within : (roundings : ℕ) → error_after roundings ≤ 32
unfolding error_after
error_within roundings = omega arith

pub value_encloses : (tens : Tens) (error low high m r : ℕ) (n : Known) → exponent_of tens ≤ 37 → error ≤ 32
    → low ≤ high → high ≤ 2 ^ 33
    → low * 2 ^ unit_bits ≤ m → m ≤ high * 2 ^ unit_bits → MayRead tens error m r
    → signed Plus (answer 32 error (scaled_span tens low high)) ≡ Ok n → Encloses n (pos r)
value_encloses (Times k) error low high m r n h small order fits above below may e =
    let one : 0 < 1 = omega arith in
    let few : 32 ≤ 40 = omega arith in
    let scale : unit_bits + k ≤ 800 = omega arith in
    signed_encloses Plus 32 error (times_ten k low high) n (m * 10 ^ k) 1 (pos r)
    (times_wide k low high h order fits) scale few small one
    (times_holds k low high m above below) may (omega (arith, ints)) e
value_encloses (Over k) error low high m r n h small order fits above below may e =
    let few : 32 ≤ 40 = omega arith in
    let scale : quotient_scale - k ≤ 800 = omega arith in
    signed_encloses Plus 32 error (over_ten k low high) n m (10 ^ k) (pos r) (over_wide k low high h order fits)
    scale few small (ten_pos k)
    (over_holds k low high m h above below) may (omega (arith, ints)) e

pub one_more : (b : Bool) (n : ℕ) → n ≤ 2 ^ 32 → (n ≤ n + (if b then 1 else 0)) × (n + (if b then 1 else 0) ≤ 2 ^ 33)
one_more true n h = (omega arith, omega arith)
one_more false n h = (omega arith, omega arith)

pub constants_are_certain : ConstantsAreCertain
unfolding value_of
constants_are_certain c n m r few above below may e =
    let ends = one_more c.more c.digits few in
    elim (known_branch (nat_le (exponent_of c.tens) 37) (signed Plus
    (answer 32 (error_after c.roundings) (scaled_span c.tens (least c) (greatest c)))) (Err NotCertain) n e) [
      | inl found ↦
          let small = leb-true (exponent_of c.tens) 37 found.0 in
          value_encloses c.tens (error_after c.roundings) (least c) (greatest c) m r n small
          (error_within c.roundings) ends.0 ends.1 above below may found.1
      | inr none ↦ absurd (cc)
    ]
