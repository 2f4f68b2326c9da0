use Rattle.std.proofs.Common.{◌≡◌, ℕ, ◌+◌, ◌-◌, ◌*◌, ◌/◌, ◌^◌, ◌<◌, ◌≤◌, ◌==◌, ◌||◌, ◌⊎◌, ℤ, Bool, true, false, nat_le}
use Rattle.std.proofs.Common.{if◌then◌else◌, arith, sym, subst, refl, ap, ◌∙◌, inl, inr, unsigned_abs, Result, Ok, Err}
use Rattle.std.proofs.lemmas.Bool.{or_cases, eqb-true, eqb-false, leb-true}
use Rattle.std.proofs.lemmas.Nat.{pow_pos, pow-add, le-div}
use Rattle.std.proofs.Math.Nat.{mul-le-mul, mul-le-mul_left, mul-le-mul_right, div-mul-le_self, div-le_self}
use Rattle.std.proofs.Math.Nat.{lt-div-mul-add, mul-pos}
use Rattle.pr_interpreter.specs.Machine.{MayAnswer, unit_bits}
use Rattle.pr_interpreter.specs.Spans.{IsShort, IsWide, Holds, answer}
use Rattle.pr_interpreter.specs.Numbers.{Known, Encloses, HasSign, is_zero, zero_number, signed, times, span_product}
use Rattle.pr_interpreter.specs.Numbers.{product, span_quotient, quotient, quotient_digits, quotient_scale}
use Rattle.pr_interpreter.specs.NumberLaws.{ProductsAreCertain, QuotientsAreCertain}
use Rattle.pr_interpreter.specs.declared.span.Span.{Span}
use Rattle.pr_interpreter.specs.declared.number.Sign.{Sign}
use Rattle.pr_interpreter.specs.declared.fault.NumberFault.{NumberFault}
use Rattle.pr_interpreter.specs.declared.fault.NumberFault.TheVariants.{NotCertain, DivisionByZero}
use Rattle.pr_interpreter.proofs.AnswerLemmas.{answer_holds}
use Rattle.pr_interpreter.proofs.SignLemmas.{zero_has, product_sign, answer_zero}

-- either branch of an if
pub known_branch : (b : Bool) (x y : Result Known NumberFault) (n : Known)
    → (if b then x else y) ≡ Ok n → ((b ≡ true) × (x ≡ Ok n)) ⊎ ((b ≡ false) × (y ≡ Ok n))
known_branch true x y n e = inl (refl, e)
known_branch false x y n e = inr (refl, e)

-- a signed result is a span with that sign
pub signed_ok : (s : Sign) (span : Result Span NumberFault) (n : Known) → signed s span ≡ Ok n
    → (t : Span) × (span ≡ Ok t) × (n.sign ≡ s) × (n.span ≡ t)
signed_ok s (Ok t) n e = (t, refl, cc, cc)
signed_ok s (Err fault) n e = absurd (cc)

-- what is answered to a calculation with magnitudes, with its sign
pub signed_encloses : (s : Sign) (digits error : ℕ) (span : Span) (n : Known) (p q : ℕ) (r : ℤ)
    → IsWide span → span.scale ≤ 800 → digits ≤ 40 → error ≤ 32 → 0 < q → Holds span p q
    → MayAnswer digits error p q (unsigned_abs r) → HasSign s r → signed s (answer digits error span) ≡ Ok n
    → Encloses n r
signed_encloses s digits error span n p q r wide scale few small pos holds may sign e =
    let found = signed_ok s (answer digits error span) n e in
    let held = answer_holds digits error span found.0 p q (unsigned_abs r) wide scale few small pos holds may found.1 in
    record {
      sign = subst (λ (u : Sign). HasSign u r) (sym found.2) sign;
      magnitude = subst (λ (u : Span). Holds u (unsigned_abs r) 1) (sym found.3) held;
    }

abbrev pub ok_of : Known → Result Known NumberFault
ok_of a = Ok a

-- results that are equal have equal numbers
pub same_known : (a n : Known) → ok_of a ≡ Ok n → a ≡ n
same_known a n e = cc

-- 0 is in the number 0
pub zero_encloses : (n : Known) (r : ℤ) → ok_of zero_number ≡ Ok n → unsigned_abs r ≡ 0 → Encloses n r
zero_encloses n r e none =
    subst (λ (m : Known). Encloses m r) (same_known zero_number n e) (record {
      sign = zero_has zero_number.sign r none;
      magnitude = record { above = omega arith; below = omega arith };
    })

-- the magnitude of a value in a number that is 0
pub none_in : (a : Known) (x : ℤ) → Encloses a x → is_zero a ≡ true → unsigned_abs x ≡ 0
none_in a x h e =
    let none = eqb-true a.span.high 0 e in
    let below = subst (λ (k : ℕ). unsigned_abs x ≤ k * 2 ^ a.span.scale * 1) none h.magnitude.below in
    omega arith

-- ---- products

pub short_product : (a b c d : ℕ) → a ≤ b → b ≤ 2 ^ 40 → c ≤ d → d ≤ 2 ^ 40 → (a * c ≤ b * d) × (b * d ≤ 2 ^ 80)
short_product a b c d first small second little = (mul-le-mul first second, mul-le-mul small little)

pub product_wide : (x y : Span) → IsShort x → IsShort y → IsWide (span_product x y)
product_wide x y first second =
    let ends = short_product x.low x.high y.low y.high first.ordered first.high second.ordered second.high in
    record { ordered = ends.0; high = omega (arith, ends.1); scale = omega (arith, first.scale, second.scale) }

pub product_below : (a b v w p u x y : ℕ) → p * u ≡ v * w → a * v ≤ x → b * w ≤ y → a * b * p * u ≤ x * y
product_below a b v w p u x y e first second =
    let both = mul-le-mul first second in
    let same = ap (λ (t : ℕ). a * b * t) e in
    omega arith

pub product_above : (a b v w p u x y : ℕ) → p * u ≡ v * w → x ≤ a * v → y ≤ b * w → x * y ≤ a * b * p * u
product_above a b v w p u x y e first second =
    let both = mul-le-mul first second in
    let same = ap (λ (t : ℕ). a * b * t) e in
    omega arith

-- powers of 2 whose exponents have one sum
pub power_sum : (i j k : ℕ) → i ≤ j + k → 2 ^ (j + k - i) * 2 ^ i ≡ 2 ^ j * 2 ^ k
power_sum i j k h =
    let e : j + k - i + i ≡ j + k = omega arith in
    sym (pow-add 2 (j + k - i) i) ∙ ap (λ (n : ℕ). 2 ^ n) e ∙ pow-add 2 j k

pub product_holds : (x y : Span) (m n : ℕ) → unit_bits ≤ x.scale + y.scale → Holds x m 1 → Holds y n 1
    → Holds (span_product x y) (m * n) (2 ^ unit_bits)
product_holds x y m n scale first second =
    let powers = power_sum unit_bits x.scale y.scale scale in
    let p = 2 ^ (x.scale + y.scale - unit_bits) in
    record {
      above = product_below x.low y.low (2 ^ x.scale) (2 ^ y.scale) p (2 ^ unit_bits) m n powers
          (omega (arith, first.above)) (omega (arith, second.above));
      below = product_above x.high y.high (2 ^ x.scale) (2 ^ y.scale) p (2 ^ unit_bits) m n powers
          (omega (arith, first.below)) (omega (arith, second.below));
    }

-- a product of which one factor is 0
pub no_product : (m n : ℕ) → (m ≡ 0) ⊎ (n ≡ 0) → m * n ≡ 0
no_product m n (inl e) = rw e (omega arith)
no_product m n (inr e) = rw e (omega arith)

pub products_are_certain : ProductsAreCertain
unfolding product
products_are_certain a b n x y r first second in_a in_b may e =
    let m = unsigned_abs x in
    let k = unsigned_abs y in
    let unit = pow_pos unit_bits in
    let none = λ (h : (m ≡ 0) ⊎ (k ≡ 0)). answer_zero 24 30 (m * k) (2 ^ unit_bits) (unsigned_abs r) unit
    (no_product m k h) may.1 in
    elim (known_branch (is_zero a || is_zero b) (Ok zero_number) (if nat_le unit_bits (a.span.scale + b.span.scale)
    then signed (times a.sign b.sign) (answer 24 30 (span_product a.span b.span)) else Err NotCertain) n e) [
      | inl zero ↦ zero_encloses n r zero.1 (elim (or_cases (is_zero a) (is_zero b) zero.0) [
        | inl is ↦ none (inl (none_in a x in_a is))
        | inr is ↦ none (inr (none_in b y in_b is))
      ])
      | inr more ↦
          elim (known_branch (nat_le unit_bits (a.span.scale + b.span.scale))
          (signed (times a.sign b.sign) (answer 24 30 (span_product a.span b.span))) (Err NotCertain) n more.1) [
            | inl found ↦
                let scale = leb-true unit_bits (a.span.scale + b.span.scale) found.0 in
                let sign = product_sign a.sign b.sign x y r in_a.sign in_b.sign may.0 (λ (h : m ≡ 0). none (inl h))
                (λ (h : k ≡ 0). none (inr h)) in
                signed_encloses (times a.sign b.sign) 24 30 (span_product a.span b.span) n (m * k) (2 ^ unit_bits) r
                (product_wide a.span b.span first second) (omega (arith, first.scale, second.scale)) (omega arith)
                (omega arith) unit
                (product_holds a.span b.span m k scale in_a.magnitude in_b.magnitude) may.1 sign found.1
            | inr none ↦ absurd (cc)
          ]
    ]

-- ---- quotients

-- rounded up and multiplied again
pub ceiling_of : (n d : ℕ) → 0 < d → n ≤ (n + (d - 1)) / d * d
ceiling_of n d pos = let above = lt-div-mul-add {a = n + (d - 1)} {b = d} pos in omega arith

pub quotient_order : (a b l h : ℕ) → a ≤ b → 0 < l → l ≤ h → a / h ≤ (b + (l - 1)) / l
quotient_order a b l h order pos ordered =
    let down = div-mul-le_self a h in
    let less = mul-le-mul_left (a / h) ordered in
    le-div (a / h) (b + (l - 1)) l pos (omega arith)

pub quotient_wide : (x y : Span) → IsShort x → IsShort y → 0 < y.low → IsWide (span_quotient x y)
quotient_wide x y first second pos =
    let raised = mul-le-mul_right {m = x.low} {n = x.high} (2 ^ quotient_digits) first.ordered in
    let most = mul-le-mul_right {m = x.high} {n = 2 ^ 40} (2 ^ quotient_digits) first.high in
    let small = div-le_self (x.high * 2 ^ quotient_digits + (y.low - 1)) y.low in
    record {
      ordered = quotient_order (x.low * 2 ^ quotient_digits) (x.high * 2 ^ quotient_digits) y.low y.high raised pos
          second.ordered;
      high = omega (arith, second.high, second.ordered);
      scale = omega (arith, first.scale);
    }

pub quotient_below : (c h a d v w p u x y : ℕ) → p * w * d ≡ v * u → c * h ≤ a * d → a * v ≤ x → y ≤ h * w
    → c * p * y ≤ x * u
quotient_below c h a d v w p u x y e whole first second =
    let most = mul-le-mul_left (c * p) second in
    let least = mul-le-mul_right {m = c * h} {n = a * d} (p * w) whole in
    let same = ap (λ (t : ℕ). a * t) e in
    let over = mul-le-mul_right {m = a * v} {n = x} u first in
    omega arith

pub quotient_above : (c h a d v w p u x y : ℕ) → p * w * d ≡ v * u → a * d ≤ c * h → x ≤ a * v → h * w ≤ y
    → x * u ≤ c * p * y
quotient_above c h a d v w p u x y e whole first second =
    let least = mul-le-mul_left (c * p) second in
    let most = mul-le-mul_right {m = a * d} {n = c * h} (p * w) whole in
    let same = ap (λ (t : ℕ). a * t) e in
    let over = mul-le-mul_right {m = x} {n = a * v} u first in
    omega arith

pub power_sums : (i j k m n : ℕ) → i + j + k ≡ m + n → 2 ^ i * 2 ^ j * 2 ^ k ≡ 2 ^ m * 2 ^ n
power_sums i j k m n e =
    let left = pow-add 2 (i + j) k in
    let front = pow-add 2 i j in
    let right = pow-add 2 m n in
    let whole = ap (λ (t : ℕ). 2 ^ t) e in
    let more = ap (λ (t : ℕ). t * 2 ^ k) front in
    sym more ∙ sym left ∙ whole ∙ right

pub quotient_holds : (x y : Span) (m n : ℕ) → y.scale ≤ x.scale + quotient_scale → 0 < y.low → Holds x m 1 → Holds y n 1
    → Holds (span_quotient x y) (m * 2 ^ unit_bits) n
quotient_holds x y m n scale pos first second =
    let sum : x.scale + quotient_scale - y.scale + y.scale + quotient_digits ≡ x.scale + unit_bits = omega arith in
    let powers = power_sums (x.scale + quotient_scale - y.scale) y.scale quotient_digits x.scale unit_bits sum in
    let p = 2 ^ (x.scale + quotient_scale - y.scale) in
    let d = 2 ^ quotient_digits in
    let u = 2 ^ unit_bits in
    record {
      above = quotient_below (x.low * d / y.high) y.high x.low d (2 ^ x.scale) (2 ^ y.scale) p u m n powers
          (div-mul-le_self (x.low * d) y.high) (omega (arith, first.above)) (omega (arith, second.below));
      below = quotient_above ((x.high * d + (y.low - 1)) / y.low) y.low x.high d (2 ^ x.scale) (2 ^ y.scale) p u m n
          powers
          (ceiling_of (x.high * d) y.low pos) (omega (arith, first.below)) (omega (arith, second.above));
    }

-- the divisor is not 0
pub divisor_positive : (y : Span) (n : ℕ) → 0 < y.low → Holds y n 1 → 0 < n
divisor_positive y n pos h = let least = mul-pos pos (pow_pos y.scale) in omega (arith, h.above)

pub quotients_are_certain : QuotientsAreCertain
unfolding quotient
quotients_are_certain a b n x y r first second in_a in_b may e =
    let m = unsigned_abs x in
    let k = unsigned_abs y in
    elim (known_branch (b.span.low == 0) (Err (if is_zero b then DivisionByZero else NotCertain)) (if is_zero a
    then Ok zero_number else if nat_le b.span.scale (a.span.scale + quotient_scale)
    then signed (times a.sign b.sign) (answer 32 31 (span_quotient a.span b.span)) else Err NotCertain) n e) [
      | inl none ↦ absurd (cc)
      | inr some ↦
          let nonzero = eqb-false b.span.low 0 some.0 in
          let pos : 0 < b.span.low = omega arith in
          let divisor = divisor_positive b.span k pos in_b.magnitude in
          let none = λ (h : m ≡ 0). answer_zero 32 31 (m * 2 ^ unit_bits) k (unsigned_abs r) divisor
          (no_product m (2 ^ unit_bits) (inl h)) may.1 in
          elim (known_branch (is_zero a) (Ok zero_number) (if nat_le b.span.scale (a.span.scale + quotient_scale)
          then signed (times a.sign b.sign) (answer 32 31 (span_quotient a.span b.span)) else Err NotCertain) n some.1) [
            | inl zero ↦ zero_encloses n r zero.1 (none (none_in a x in_a zero.0))
            | inr more ↦
                elim (known_branch (nat_le b.span.scale (a.span.scale + quotient_scale))
                (signed (times a.sign b.sign) (answer 32 31 (span_quotient a.span b.span))) (Err NotCertain) n more.1) [
                  | inl found ↦
                      let scale = leb-true b.span.scale (a.span.scale + quotient_scale) found.0 in
                      let sign = product_sign a.sign b.sign x y r in_a.sign in_b.sign may.0 none
                      (λ (h : k ≡ 0). absurd (omega arith)) in
                      signed_encloses (times a.sign b.sign) 32 31 (span_quotient a.span b.span) n (m * 2 ^ unit_bits) k
                      r
                      (quotient_wide a.span b.span first second pos) (omega (arith, first.scale)) (omega arith)
                      (omega arith) divisor
                      (quotient_holds a.span b.span m k scale pos in_a.magnitude in_b.magnitude) may.1 sign found.1
                  | inr none ↦ absurd (cc)
                ]
          ]
    ]
