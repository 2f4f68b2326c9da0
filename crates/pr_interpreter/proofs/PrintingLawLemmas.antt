use Rattle.std.proofs.Common.{◌≡◌, ◌≢◌, ℕ, ℤ, pos, ◌≤ℤ◌, zero, suc, ◌+◌, ◌-◌, ◌*◌, ◌/◌, ◌%◌, ◌^◌, ◌<◌, ◌≤◌, Bool, true}
use Rattle.std.proofs.Common.{false, List, [], ◌∷◌, get_or, if◌then◌else◌, arith, sym, subst, refl, ap, ◌∙◌, inl, inr}
use Rattle.std.proofs.Common.{unsigned_abs}
use Rattle.std.proofs.lemmas.Bool.{ne_eqb, cases_lt}
use Rattle.std.proofs.lemmas.Int.{ints}
use Rattle.std.proofs.lemmas.Nat.{pow_pos, pow-add, le-div}
use Rattle.std.proofs.Math.Arith.{mod-mul}
use Rattle.std.proofs.Math.Nat.{add-sub_cancel_left, add-zero, div-div-eq-div-mul, div-mul-le_self, mul-div_cancel}
use Rattle.std.proofs.Math.Nat.{mul-le-mul, mul-pos, one-le-pow, pow-le-pow_right, pow-suc}
use Rattle.pr_interpreter.specs.Machine.{unit_bits}
use Rattle.pr_interpreter.specs.Spans.{Holds}
use Rattle.pr_interpreter.specs.Numbers.{Known, Encloses, HasSign, whole_number}
use Rattle.pr_interpreter.specs.Decimals.{HasDigits, HasCommon, IsDecimal, sign_of, sixteenths, ten_digits}
use Rattle.pr_interpreter.specs.Printing.{digit, nine_digits, significant, pointed, digits_text}
use Rattle.pr_interpreter.specs.PrintingLaws.{DigitsAreCertain, AreDigits, read_digits, Writes, ReadsBack}
use Rattle.pr_interpreter.specs.PrintingLaws.{WholeNumbersReadBack}
use Rattle.pr_interpreter.specs.declared.decimals.Digits.{Digits}
use Rattle.pr_interpreter.specs.declared.decimals.Decimal.{Decimal}
use Rattle.pr_interpreter.specs.declared.span.Span.{Span}
use Rattle.pr_interpreter.specs.declared.number.Sign.{Sign}
use Rattle.pr_interpreter.specs.declared.number.Sign.TheVariants.{Plus, Minus}
use Rattle.pr_interpreter.proofs.DecimalLemmas.{one_place, one_number}

-- ---- each value in a span has its digits

pub ten_pos : (k : ℕ) → 0 < 10 ^ k
ten_pos k = let some : 0 < 10 = omega arith in omega (arith, one-le-pow k 10 some)

pub quotient_order : (x y m : ℕ) → 0 < m → x ≤ y → x / m ≤ y / m
quotient_order x y m some h =
    let below = div-mul-le_self x m in
    let within : x / m * m ≤ y = omega arith in
    le-div (x / m) y m some within

pub sixteenths_order : (p x y : ℕ) → x ≤ y → sixteenths p x ≤ sixteenths p y
unfolding sixteenths
sixteenths_order p x y h =
    let product : x * 16 * 10 ^ 37 ≤ y * 16 * 10 ^ 37 = omega arith in
    quotient_order (x * 16 * 10 ^ 37) (y * 16 * 10 ^ 37) (10 ^ p * 2 ^ unit_bits)
    (mul-pos (ten_pos p) (pow_pos unit_bits)) product

pub between : (a b c d : ℕ) → a ≤ b → b ≤ c → d ≡ (a + 8) / 16 → d ≡ (c + 8) / 16 → d ≡ (b + 8) / 16
between a b c d first second low high = omega arith

pub squeezed : (low high u : ℕ) (d : Digits) → low ≤ u → u ≤ high → HasDigits low d → HasDigits high d → HasDigits u d
squeezed low high u d above below first last =
    let under = sixteenths_order d.place low u above in
    let over = sixteenths_order d.place u high below in
    record {
      rounded = between (sixteenths d.place low) (sixteenths d.place u) (sixteenths d.place high) d.digits under
          over first.rounded last.rounded;
      nine = omega (arith, last.nine);
      finest = λ p h. (let ten = first.finest p h in let more = sixteenths_order p low u above in omega arith);
      within = first.within;
    }

pub enclosed : (s : Span) (d : Digits) (u : ℕ) → HasCommon s d → Holds s u 1 → HasDigits u d
enclosed s d u h holds =
    let above : s.low * 2 ^ s.scale ≤ u = omega (arith, holds.above) in
    let below : u ≤ s.high * 2 ^ s.scale = omega (arith, holds.below) in
    squeezed (s.low * 2 ^ s.scale) (s.high * 2 ^ s.scale) u d above below h.low h.high

-- a value of an end that is 0 has both signs
pub sign_of_nothing : (high scale : ℕ) (x : ℤ) → unsigned_abs x ≤ high * 2 ^ scale * 1 → high ≡ 0 → pos 0 ≤ℤ x
sign_of_nothing high scale x below e =
    let none = subst (λ (k : ℕ). unsigned_abs x ≤ k * 2 ^ scale * 1) e below in
    let size : unsigned_abs x ≡ 0 = omega arith in
    omega (arith, ints)

pub sign_is_certain : (n : Known) (d : Decimal) (x : ℤ) → IsDecimal n d → Encloses n x → HasSign (sign_of d.negative) x
sign_is_certain n d x h e =
    elim (cases_lt 0 n.span.high) [
      | inl some ↦
          let ne : n.span.high ≢ 0 = (λ z. omega arith) in
          subst (λ (s : Sign). HasSign s x) (h.sign ne) e.sign
      | inr none ↦
          let z : n.span.high ≡ 0 = omega arith in
          subst (λ (b : Bool). HasSign (sign_of b) x) (sym (h.nothing z))
          (sign_of_nothing n.span.high n.span.scale x e.magnitude.below z)
    ]

pub digits_are_certain : DigitsAreCertain
digits_are_certain n d x h e = (
  enclosed n.span d.magnitude (unsigned_abs x) h.digits e.magnitude,
  sign_is_certain n
      d x h e,
)

-- ---- the digits of a whole number

pub grouped : (n u t a b : ℕ) → t ≡ a * b → n * u * 16 * t ≡ n * 16 * a * (b * u)
grouped n u t a b e = let scaled = ap (λ (k : ℕ). n * u * 16 * k) e in omega arith

pub whole_sixteenths : (n p : ℕ) → p ≤ 37 → sixteenths p (n * 2 ^ unit_bits) ≡ n * 16 * 10 ^ (37 - p)
unfolding sixteenths
whole_sixteenths n p h =
    let e : 37 - p + p ≡ 37 = omega arith in
    let ten = sym (ap (λ (k : ℕ). 10 ^ k) e) ∙ pow-add 10 (37 - p) p in
    let first = grouped n (2 ^ unit_bits) (10 ^ 37) (10 ^ (37 - p)) (10 ^ p) ten in
    ap (λ (t : ℕ). t / (10 ^ p * 2 ^ unit_bits)) first
    ∙ mul-div_cancel (n * 16 * 10 ^ (37 - p)) {n = 10 ^ p * 2 ^ unit_bits} (mul-pos (ten_pos p) (pow_pos unit_bits))

pub ten_order : (i j : ℕ) → i ≤ j → 10 ^ i ≤ 10 ^ j
ten_order i j h = let some : 0 < 10 = omega arith in pow-le-pow_right some h

pub whole_finest : (n k p : ℕ) → k ≤ 8 → 10 ^ 9 ≤ n * 10 ^ k * 10 → p < 37 - k
    → ten_digits ≤ sixteenths p (n * 2 ^ unit_bits)
whole_finest n k p few large h =
    let within : p ≤ 37 = omega arith in
    let finer : suc k ≤ 37 - p = omega arith in
    let order = ten_order (suc k) (37 - p) finer in
    let same : n * 16 ≤ n * 16 = omega arith in
    let product = mul-le-mul same order in
    let ten = ap (λ (t : ℕ). n * 16 * t) (pow-suc 10 k) in
    rw (whole_sixteenths n p within) (omega arith)

pub whole_count : (n k : ℕ) → k ≤ 8 → sixteenths (37 - k) (n * 2 ^ unit_bits) ≡ n * 16 * 10 ^ k
whole_count n k few =
    let within : 37 - k ≤ 37 = omega arith in
    let e : 37 - (37 - k) ≡ k = omega arith in
    whole_sixteenths n (37 - k) within ∙ ap (λ (t : ℕ). n * 16 * 10 ^ t) e

pub whole_has : (n k : ℕ) → k ≤ 8 → n * 10 ^ k < 10 ^ 9 → 10 ^ 9 ≤ n * 10 ^ k * 10
    → HasDigits (n * 2 ^ unit_bits) (record { digits = n * 10 ^ k; place = 37 - k })
whole_has n k few small large =
    let count = whole_count n k few in
    record {
      rounded = rw count (omega arith);
      nine = rw count (omega arith);
      finest = λ p h. whole_finest n k p few large h;
      within = omega arith;
    }

-- ---- their text

-- the digits of a number from the power of ten below w + k down to k
abbrev pub part : ℕ → ℕ → ℕ → List ℕ
part zero k n = []
part (suc w) k n = digit n (10 ^ (w + k)) ∷ part w k n

pub part_digits : (w k n : ℕ) → AreDigits (part w k n)
part_digits zero k n = tt
part_digits (suc w) k n = (omega arith, omega arith, part_digits w k n)

pub zero_digit : (n k m : ℕ) → n ≡ m * 10 ^ suc k → digit n (10 ^ (k + 0)) ≡ 48
zero_digit n k m e =
    let power = ap (λ (t : ℕ). 10 ^ t) (add-zero k) in
    let ten = ap (λ (t : ℕ). m * t) (pow-suc 10 k) in
    let whole : n ≡ m * 10 * 10 ^ k = omega (arith, e, ten) in
    let quotient = ap (λ (t : ℕ). n / t) power ∙ ap (λ (t : ℕ). t / 10 ^ k) whole ∙ mul-div_cancel (m * 10)
    {n = 10 ^ k} (ten_pos k) in
    ap (λ (t : ℕ). 48 + t % 10) quotient ∙ omega arith

pub zeros : (k n m : ℕ) → n ≡ m * 10 ^ k → significant (part k 0 n) ≡ 0
unfolding significant
zeros zero n m e = refl
zeros (suc k) n m e =
    let ten = ap (λ (t : ℕ). m * t) (pow-suc 10 k) in
    let whole : n ≡ m * 10 * 10 ^ k = omega (arith, e, ten) in
    rw (zero_digit n k m e, zeros k n (m * 10) whole) refl

pub part_step : (a t p r q : ℕ) → q ≡ t * p + r → (a * 10 + (48 + t - 48)) * p + r ≡ a * (p * 10) + q
part_step a t p r q e = rw (add-sub_cancel_left 48 t) (omega arith)

pub part_reads : (w k a n : ℕ) → read_digits a (part w k n) ≡ a * 10 ^ w + n / 10 ^ k % 10 ^ w
part_reads zero k a n = omega arith
part_reads (suc w) k a n =
    let last = part_reads w k (a * 10 + (digit n (10 ^ (w + k)) - 48)) n in
    let ten : 0 < 10 = omega arith in
    let split = mod-mul (n / 10 ^ k) {m = 10} {c = 10 ^ w} ten (ten_pos w) in
    let order : w + k ≡ k + w = omega arith in
    let power = ap (λ (t : ℕ). 10 ^ t) order ∙ pow-add 10 k w in
    let down = div-div-eq-div-mul n (10 ^ k) (10 ^ w) ∙ sym (ap (λ (t : ℕ). n / t) power) in
    let turned : 10 ^ suc w ≡ 10 * 10 ^ w = omega (arith, pow-suc 10 w) in
    let whole = ap (λ (t : ℕ). n / 10 ^ k % t) turned ∙ split ∙ ap
    (λ (t : ℕ). t % 10 * 10 ^ w + n / 10 ^ k % 10 ^ w) down in
    let step = part_step a (n / 10 ^ (w + k) % 10) (10 ^ w) (n / 10 ^ k % 10 ^ w) (n / 10 ^ k % 10 ^ suc w) whole in
    last ∙ step ∙ ap (λ (t : ℕ). a * t + n / 10 ^ k % 10 ^ suc w) (sym (pow-suc 10 w))

-- a whole number has digits, and they write it
pub record IsWritten (n : ℕ) : Type 0 where
  pub digits : Digits
  pub has : HasDigits (n * 2 ^ unit_bits) digits
  pub some : 0 < digits.place
  pub text : Writes (digits_text digits) n

pub text_0 : (n : ℕ) → 100000000 ≤ n
    → digits_text (record { digits = n * 1; place = 37 }) ≡ part 9 0 (n * 1)
unfolding digits_text pointed nine_digits
text_0 n large =
    let some : n * 1 ≢ 0 = (λ e. omega arith) in
    let none : n * 1 ≡ n * 10 ^ 0 = omega arith in
    rw (ne_eqb (n * 1) 0 some, zeros 0 (n * 1) n none) refl

pub written_0 : (n : ℕ) → 100000000 ≤ n → n < 1000000000 → IsWritten n
written_0 n large small =
    let few : 0 ≤ 8 = omega arith in
    let below : n * 10 ^ 0 < 10 ^ 9 = omega arith in
    let above : 10 ^ 9 ≤ n * 10 ^ 0 * 10 = omega arith in
    let value : read_digits 0 (part 9 0 (n * 1)) ≡ n = omega (arith, part_reads 9 0 0 (n * 1)) in
    let first : get_or (part 9 0 (n * 1)) 0 0 ≢ 48 = (λ e. omega arith) in
    let digits = part_digits 9 0 (n * 1) in
    let written : Writes (part 9 0 (n * 1)) n = record { digits = digits; first = first; value = value } in
    record {
      digits = record { digits = n * 1; place = 37 };
      has = whole_has n 0 few below above;
      some = omega arith;
      text = rw (text_0 n large) written;
    }

pub text_1 : (n : ℕ) → 10000000 ≤ n
    → digits_text (record { digits = n * 10; place = 36 }) ≡ part 8 1 (n * 10)
unfolding digits_text pointed nine_digits
text_1 n large =
    let some : n * 10 ≢ 0 = (λ e. omega arith) in
    let none : n * 10 ≡ n * 10 ^ 1 = omega arith in
    rw (ne_eqb (n * 10) 0 some, zeros 1 (n * 10) n none) refl

pub written_1 : (n : ℕ) → 10000000 ≤ n → n < 100000000 → IsWritten n
written_1 n large small =
    let few : 1 ≤ 8 = omega arith in
    let below : n * 10 ^ 1 < 10 ^ 9 = omega arith in
    let above : 10 ^ 9 ≤ n * 10 ^ 1 * 10 = omega arith in
    let value : read_digits 0 (part 8 1 (n * 10)) ≡ n = omega (arith, part_reads 8 1 0 (n * 10)) in
    let first : get_or (part 8 1 (n * 10)) 0 0 ≢ 48 = (λ e. omega arith) in
    let digits = part_digits 8 1 (n * 10) in
    let written : Writes (part 8 1 (n * 10)) n = record { digits = digits; first = first; value = value } in
    record {
      digits = record { digits = n * 10; place = 36 };
      has = whole_has n 1 few below above;
      some = omega arith;
      text = rw (text_1 n large) written;
    }

pub text_2 : (n : ℕ) → 1000000 ≤ n
    → digits_text (record { digits = n * 100; place = 35 }) ≡ part 7 2 (n * 100)
unfolding digits_text pointed nine_digits
text_2 n large =
    let some : n * 100 ≢ 0 = (λ e. omega arith) in
    let none : n * 100 ≡ n * 10 ^ 2 = omega arith in
    rw (ne_eqb (n * 100) 0 some, zeros 2 (n * 100) n none) refl

pub written_2 : (n : ℕ) → 1000000 ≤ n → n < 10000000 → IsWritten n
written_2 n large small =
    let few : 2 ≤ 8 = omega arith in
    let below : n * 10 ^ 2 < 10 ^ 9 = omega arith in
    let above : 10 ^ 9 ≤ n * 10 ^ 2 * 10 = omega arith in
    let value : read_digits 0 (part 7 2 (n * 100)) ≡ n = omega (arith, part_reads 7 2 0 (n * 100)) in
    let first : get_or (part 7 2 (n * 100)) 0 0 ≢ 48 = (λ e. omega arith) in
    let digits = part_digits 7 2 (n * 100) in
    let written : Writes (part 7 2 (n * 100)) n = record { digits = digits; first = first; value = value } in
    record {
      digits = record { digits = n * 100; place = 35 };
      has = whole_has n 2 few below above;
      some = omega arith;
      text = rw (text_2 n large) written;
    }

pub text_3 : (n : ℕ) → 100000 ≤ n
    → digits_text (record { digits = n * 1000; place = 34 }) ≡ part 6 3 (n * 1000)
unfolding digits_text pointed nine_digits
text_3 n large =
    let some : n * 1000 ≢ 0 = (λ e. omega arith) in
    let none : n * 1000 ≡ n * 10 ^ 3 = omega arith in
    rw (ne_eqb (n * 1000) 0 some, zeros 3 (n * 1000) n none) refl

pub written_3 : (n : ℕ) → 100000 ≤ n → n < 1000000 → IsWritten n
written_3 n large small =
    let few : 3 ≤ 8 = omega arith in
    let below : n * 10 ^ 3 < 10 ^ 9 = omega arith in
    let above : 10 ^ 9 ≤ n * 10 ^ 3 * 10 = omega arith in
    let value : read_digits 0 (part 6 3 (n * 1000)) ≡ n = omega (arith, part_reads 6 3 0 (n * 1000)) in
    let first : get_or (part 6 3 (n * 1000)) 0 0 ≢ 48 = (λ e. omega arith) in
    let digits = part_digits 6 3 (n * 1000) in
    let written : Writes (part 6 3 (n * 1000)) n = record { digits = digits; first = first; value = value } in
    record {
      digits = record { digits = n * 1000; place = 34 };
      has = whole_has n 3 few below above;
      some = omega arith;
      text = rw (text_3 n large) written;
    }

pub text_4 : (n : ℕ) → 10000 ≤ n
    → digits_text (record { digits = n * 10000; place = 33 }) ≡ part 5 4 (n * 10000)
unfolding digits_text pointed nine_digits
text_4 n large =
    let some : n * 10000 ≢ 0 = (λ e. omega arith) in
    let none : n * 10000 ≡ n * 10 ^ 4 = omega arith in
    rw (ne_eqb (n * 10000) 0 some, zeros 4 (n * 10000) n none) refl

pub written_4 : (n : ℕ) → 10000 ≤ n → n < 100000 → IsWritten n
written_4 n large small =
    let few : 4 ≤ 8 = omega arith in
    let below : n * 10 ^ 4 < 10 ^ 9 = omega arith in
    let above : 10 ^ 9 ≤ n * 10 ^ 4 * 10 = omega arith in
    let value : read_digits 0 (part 5 4 (n * 10000)) ≡ n = omega (arith, part_reads 5 4 0 (n * 10000)) in
    let first : get_or (part 5 4 (n * 10000)) 0 0 ≢ 48 = (λ e. omega arith) in
    let digits = part_digits 5 4 (n * 10000) in
    let written : Writes (part 5 4 (n * 10000)) n = record { digits = digits; first = first; value = value } in
    record {
      digits = record { digits = n * 10000; place = 33 };
      has = whole_has n 4 few below above;
      some = omega arith;
      text = rw (text_4 n large) written;
    }

pub text_5 : (n : ℕ) → 1000 ≤ n
    → digits_text (record { digits = n * 100000; place = 32 }) ≡ part 4 5 (n * 100000)
unfolding digits_text pointed nine_digits
text_5 n large =
    let some : n * 100000 ≢ 0 = (λ e. omega arith) in
    let none : n * 100000 ≡ n * 10 ^ 5 = omega arith in
    rw (ne_eqb (n * 100000) 0 some, zeros 5 (n * 100000) n none) refl

pub written_5 : (n : ℕ) → 1000 ≤ n → n < 10000 → IsWritten n
written_5 n large small =
    let few : 5 ≤ 8 = omega arith in
    let below : n * 10 ^ 5 < 10 ^ 9 = omega arith in
    let above : 10 ^ 9 ≤ n * 10 ^ 5 * 10 = omega arith in
    let value : read_digits 0 (part 4 5 (n * 100000)) ≡ n = omega (arith, part_reads 4 5 0 (n * 100000)) in
    let first : get_or (part 4 5 (n * 100000)) 0 0 ≢ 48 = (λ e. omega arith) in
    let digits = part_digits 4 5 (n * 100000) in
    let written : Writes (part 4 5 (n * 100000)) n = record { digits = digits; first = first; value = value } in
    record {
      digits = record { digits = n * 100000; place = 32 };
      has = whole_has n 5 few below above;
      some = omega arith;
      text = rw (text_5 n large) written;
    }

pub text_6 : (n : ℕ) → 100 ≤ n
    → digits_text (record { digits = n * 1000000; place = 31 }) ≡ part 3 6 (n * 1000000)
unfolding digits_text pointed nine_digits
text_6 n large =
    let some : n * 1000000 ≢ 0 = (λ e. omega arith) in
    let none : n * 1000000 ≡ n * 10 ^ 6 = omega arith in
    rw (ne_eqb (n * 1000000) 0 some, zeros 6 (n * 1000000) n none) refl

pub written_6 : (n : ℕ) → 100 ≤ n → n < 1000 → IsWritten n
written_6 n large small =
    let few : 6 ≤ 8 = omega arith in
    let below : n * 10 ^ 6 < 10 ^ 9 = omega arith in
    let above : 10 ^ 9 ≤ n * 10 ^ 6 * 10 = omega arith in
    let value : read_digits 0 (part 3 6 (n * 1000000)) ≡ n = omega (arith, part_reads 3 6 0 (n * 1000000)) in
    let first : get_or (part 3 6 (n * 1000000)) 0 0 ≢ 48 = (λ e. omega arith) in
    let digits = part_digits 3 6 (n * 1000000) in
    let written : Writes (part 3 6 (n * 1000000)) n = record { digits = digits; first = first; value = value } in
    record {
      digits = record { digits = n * 1000000; place = 31 };
      has = whole_has n 6 few below above;
      some = omega arith;
      text = rw (text_6 n large) written;
    }

pub text_7 : (n : ℕ) → 10 ≤ n
    → digits_text (record { digits = n * 10000000; place = 30 }) ≡ part 2 7 (n * 10000000)
unfolding digits_text pointed nine_digits
text_7 n large =
    let some : n * 10000000 ≢ 0 = (λ e. omega arith) in
    let none : n * 10000000 ≡ n * 10 ^ 7 = omega arith in
    rw (ne_eqb (n * 10000000) 0 some, zeros 7 (n * 10000000) n none) refl

pub written_7 : (n : ℕ) → 10 ≤ n → n < 100 → IsWritten n
written_7 n large small =
    let few : 7 ≤ 8 = omega arith in
    let below : n * 10 ^ 7 < 10 ^ 9 = omega arith in
    let above : 10 ^ 9 ≤ n * 10 ^ 7 * 10 = omega arith in
    let value : read_digits 0 (part 2 7 (n * 10000000)) ≡ n = omega (arith, part_reads 2 7 0 (n * 10000000)) in
    let first : get_or (part 2 7 (n * 10000000)) 0 0 ≢ 48 = (λ e. omega arith) in
    let digits = part_digits 2 7 (n * 10000000) in
    let written : Writes (part 2 7 (n * 10000000)) n = record { digits = digits; first = first; value = value } in
    record {
      digits = record { digits = n * 10000000; place = 30 };
      has = whole_has n 7 few below above;
      some = omega arith;
      text = rw (text_7 n large) written;
    }

pub text_8 : (n : ℕ) → 1 ≤ n
    → digits_text (record { digits = n * 100000000; place = 29 }) ≡ part 1 8 (n * 100000000)
unfolding digits_text pointed nine_digits
text_8 n large =
    let some : n * 100000000 ≢ 0 = (λ e. omega arith) in
    let none : n * 100000000 ≡ n * 10 ^ 8 = omega arith in
    rw (ne_eqb (n * 100000000) 0 some, zeros 8 (n * 100000000) n none) refl

pub written_8 : (n : ℕ) → 1 ≤ n → n < 10 → IsWritten n
written_8 n large small =
    let few : 8 ≤ 8 = omega arith in
    let below : n * 10 ^ 8 < 10 ^ 9 = omega arith in
    let above : 10 ^ 9 ≤ n * 10 ^ 8 * 10 = omega arith in
    let value : read_digits 0 (part 1 8 (n * 100000000)) ≡ n = omega (arith, part_reads 1 8 0 (n * 100000000)) in
    let first : get_or (part 1 8 (n * 100000000)) 0 0 ≢ 48 = (λ e. omega arith) in
    let digits = part_digits 1 8 (n * 100000000) in
    let written : Writes (part 1 8 (n * 100000000)) n = record { digits = digits; first = first; value = value } in
    record {
      digits = record { digits = n * 100000000; place = 29 };
      has = whole_has n 8 few below above;
      some = omega arith;
      text = rw (text_8 n large) written;
    }

pub is_written : (n : ℕ) → 0 < n → n < 10 ^ 9 → IsWritten n
is_written n some small =
    elim (cases_lt n 10) [
      | inl less ↦ written_8 n (omega arith) less
      | inr more_1 ↦
          elim (cases_lt n 100) [
            | inl less ↦ written_7 n (omega arith) less
            | inr more_2 ↦
                elim (cases_lt n 1000) [
                  | inl less ↦ written_6 n (omega arith) less
                  | inr more_3 ↦
                      elim (cases_lt n 10000) [
                        | inl less ↦ written_5 n (omega arith) less
                        | inr more_4 ↦
                            elim (cases_lt n 100000) [
                              | inl less ↦ written_4 n (omega arith) less
                              | inr more_5 ↦
                                  elim (cases_lt n 1000000) [
                                    | inl less ↦ written_3 n (omega arith) less
                                    | inr more_6 ↦
                                        elim (cases_lt n 10000000) [
                                          | inl less ↦ written_2 n (omega arith) less
                                          | inr more_7 ↦
                                              elim (cases_lt n 100000000) [
                                                | inl less ↦ written_1 n (omega arith) less
                                                | inr more_8 ↦
                                                    written_0 n more_8 small
                                              ]
                                        ]
                                  ]
                            ]
                      ]
                ]
          ]
    ]

pub sign_is : (a b : Bool) → (if a then Minus else Plus) ≡ sign_of b → b ≡ a
sign_is true true e = refl
sign_is true false e = cc
sign_is false true e = cc
sign_is false false e = refl

pub sign_has : (a : Bool) → (if a then Minus else Plus) ≡ sign_of a
sign_has true = refl
sign_has false = refl

pub same_digits : (d e : Digits) → d.place ≡ e.place → d.digits ≡ e.digits → d ≡ e
same_digits d e place digits =
    let made : ℕ → ℕ → Digits = (λ n p. record { digits = n; place = p }) in
    ap (λ (p : ℕ). made d.digits p) place ∙ ap (λ (n : ℕ). made n e.place) digits

pub whole_decimal : (negative : Bool) (n : ℕ) → 0 < n → IsWritten n
    → (d : Decimal) × IsDecimal (whole_number negative n) d
whole_decimal negative n some w = (
  record { negative = negative; magnitude = w.digits },
  record {
    digits = record { low = w.has; high = w.has };
    large = λ e. w.some;
    sign = λ e. sign_has negative;
    nothing = λ e. absurd (omega arith);
  },
)

pub reads_back : (negative : Bool) (n : ℕ) (d : Decimal) → 0 < n → IsWritten n
    → IsDecimal (whole_number negative n) d → ReadsBack negative n d
reads_back negative n d some w h =
    let ne : n ≢ 0 = (λ e. omega arith) in
    let place = one_place (n * 2 ^ unit_bits) w.digits d.magnitude w.has h.digits.low in
    let digits = one_number (n * 2 ^ unit_bits) w.digits d.magnitude w.has h.digits.low in
    let same = same_digits w.digits d.magnitude place digits in
    record {
      sign = sign_is negative d.negative (h.sign ne);
      digits = subst (λ (m : Digits). Writes (digits_text m) n) same w.text;
    }

pub whole_numbers_read_back : WholeNumbersReadBack
whole_numbers_read_back negative n some small =
    let w = is_written n some small in
    (whole_decimal negative n some w, λ d h. reads_back negative n d some w h)
