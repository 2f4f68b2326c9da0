use Rattle.std.proofs.Common.{◌≡◌, ℕ, ◌*◌, ◌^◌, ◌<◌, ◌≤◌, ◌==◌, ℤ, pos, neg_ℤ, ◌+ℤ◌, Bool, true, false, nat_lt}
use Rattle.std.proofs.Common.{if◌then◌else◌, arith, sym, subst, refl, inl, inr, unsigned_abs}
use Rattle.std.proofs.lemmas.Bool.{eq-eqb, lt-ltb, cases_eq}
use Rattle.std.proofs.lemmas.Int.{ints}
use Rattle.std.proofs.lemmas.Nat.{pow_pos}
use Rattle.std.proofs.Math.Nat.{mul-pos}
use Rattle.pr_interpreter.specs.Spans.{Holds}
use Rattle.pr_interpreter.specs.Numbers.{HasSign, is_zero, flip, negated, exact_sum, against_zero, order_of}
use Rattle.pr_interpreter.specs.NumberLaws.{Allows, NegationIsCertain, OrdersAreCertain}
use Rattle.pr_interpreter.specs.declared.span.Span.{Span}
use Rattle.pr_interpreter.specs.declared.number.Sign.{Sign}
use Rattle.pr_interpreter.specs.declared.number.Sign.TheVariants.{Plus, Minus, Either}
use Rattle.pr_interpreter.specs.declared.orders.Order.{Order}
use Rattle.pr_interpreter.proofs.NumberLemmas.{none_in}
use Rattle.pr_interpreter.proofs.SumLemmas.{exact_sum_encloses}

-- ---- negation

pub flip_has : (s : Sign) (x : ℤ) → HasSign s x → HasSign (flip s) (neg_ℤ x)
flip_has Plus x h = omega (arith, ints)
flip_has Minus x h = omega (arith, ints)
flip_has Either x h = tt

pub negation_size : (x : ℤ) → unsigned_abs (neg_ℤ x) ≡ unsigned_abs x
negation_size x = omega (arith, ints)

pub negation_is_certain : NegationIsCertain
negation_is_certain a x h = record { sign = flip_has a.sign x h.sign; magnitude = rw negation_size h.magnitude }

-- ---- comparisons

pub low_none : (s : Span) (m : ℕ) → Holds s m 1 → m ≡ 0 → (s.low == 0) ≡ true
low_none s m h e = elim (cases_eq s.low 0) [
  | inl none ↦ eq-eqb s.low 0 none
  | inr some ↦
      let least : 0 < s.low = omega arith in
      let product = mul-pos least (pow_pos s.scale) in
      absurd (omega (arith, h.above))
]

pub high_some : (s : Span) (m : ℕ) → Holds s m 1 → 0 < m → nat_lt 0 s.high ≡ true
high_some s m h least = elim (cases_eq s.high 0) [
  | inl none ↦
      let below = subst (λ (k : ℕ). m ≤ k * 2 ^ s.scale * 1) none h.below in
      absurd (omega arith)
  | inr some ↦ let more : 0 < s.high = omega arith in lt-ltb 0 s.high more
]

-- a value against 0
pub against_zero_allows : (s : Sign) (t : Span) (z : ℤ) → HasSign s z → Holds t (unsigned_abs z) 1
    → Allows (against_zero s t) z (pos 0)
against_zero_allows Plus t z sign h = record {
  less = λ k. absurd (omega (arith, ints));
  equal = λ e. low_none t (unsigned_abs z) h (omega (arith, ints));
  greater = λ k. high_some t (unsigned_abs z) h (omega (arith, ints));
}
against_zero_allows Minus t z sign h = record {
  less = λ k. high_some t (unsigned_abs z) h (omega (arith, ints));
  equal = λ e. low_none t (unsigned_abs z) h (omega (arith, ints));
  greater = λ k. absurd (omega (arith, ints));
}
against_zero_allows Either t z sign h = record {
  less = λ k. high_some t (unsigned_abs z) h (omega (arith, ints));
  equal = λ e. low_none t (unsigned_abs z) h (omega (arith, ints));
  greater = λ k. high_some t (unsigned_abs z) h (omega (arith, ints));
}

-- two values, and their difference against 0
pub by_difference : (o : Order) (x y : ℤ) → Allows o (x +ℤ neg_ℤ y) (pos 0) → Allows o x y
by_difference o x y h = record {
  less = λ k. h.less (omega (arith, ints));
  equal = λ e. h.equal (omega (arith, ints));
  greater = λ k. h.greater (omega (arith, ints));
}

pub order_choice : (a b : Bool) (o p q : Order) (x y : ℤ) → (a ≡ true → Allows o x y) → (b ≡ true → Allows p x y)
    → Allows q x y
    → Allows (if a then o else if b then p else q) x y
order_choice true b o p q x y h k m = h refl
order_choice false true o p q x y h k m = k refl
order_choice false false o p q x y h k m = m

pub orders_are_certain : OrdersAreCertain
unfolding order_of
orders_are_certain a b x y first second in_a in_b =
    let turned = negation_is_certain b y in_b in
    let difference = exact_sum_encloses a (negated b) x (neg_ℤ y) first second in_a turned in
    order_choice (is_zero b) (is_zero a) (against_zero a.sign a.span) (against_zero (flip b.sign) b.span)
    (against_zero (exact_sum a (negated b)).sign (exact_sum a (negated b)).span) x y
    (λ (zero : is_zero b ≡ true).
    let none = none_in b y in_b zero in
    let same : x +ℤ neg_ℤ y ≡ x = omega (arith, ints) in
    by_difference (against_zero a.sign a.span) x y
    (subst (λ (z : ℤ). Allows (against_zero a.sign a.span) z (pos 0)) (sym same)
    (against_zero_allows a.sign a.span x in_a.sign in_a.magnitude)))
    (λ (zero : is_zero a ≡ true).
    let none = none_in a x in_a zero in
    let same : x +ℤ neg_ℤ y ≡ neg_ℤ y = omega (arith, ints) in
    by_difference (against_zero (flip b.sign) b.span) x y
    (subst (λ (z : ℤ). Allows (against_zero (flip b.sign) b.span) z (pos 0)) (sym same)
    (against_zero_allows (flip b.sign) b.span (neg_ℤ y) turned.sign turned.magnitude)))
    (by_difference (against_zero (exact_sum a (negated b)).sign (exact_sum a (negated b)).span) x y
    (against_zero_allows (exact_sum a (negated b)).sign (exact_sum a (negated b)).span (x +ℤ neg_ℤ y) difference.sign
    difference.magnitude))
