use Rattle.std.proofs.Common.{◌≡◌, ℕ, ◌+◌, ◌-◌, ◌*◌, ◌/◌, ◌%◌, ◌^◌, ◌<◌, ◌≤◌, ◌==◌, ◌⊎◌, Bool, true, false, nat_le}
use Rattle.std.proofs.Common.{arith, sym, refl, inl, inr, subst, Result, Ok, Err, IfOk, ◌∙◌, if◌then◌else◌}
use Rattle.std.proofs.Math.Nat.{mul-le-mul_right, mul-le-mul_left, eq_of_mul-eq-mul_right, lt_of_mul-lt-mul_right}
use Rattle.std.proofs.lemmas.Bool.{and_parts, leb-true, eqb-true}
use Rattle.std.proofs.lemmas.Nat.{pow_pos, div-mul-add, shr_split}
use Rattle.pr_interpreter.specs.Machine.{MayAnswer, IsNear, HasForm, smallest_bits, largest_bits}
use Rattle.pr_interpreter.specs.Spans.{IsWide, IsShort, Holds, bit_length, drop_digits, shorten, widen, is_in_range}
use Rattle.pr_interpreter.specs.Spans.{in_range, is_too_large, around, has_form, answer, end_digits}
use Rattle.pr_interpreter.specs.declared.span.Span.{Span}
use Rattle.pr_interpreter.specs.declared.fault.NumberFault.{NumberFault}
use Rattle.pr_interpreter.specs.declared.fault.NumberFault.TheVariants.{NotCertain, Overflow}
use Rattle.pr_interpreter.proofs.BitLemmas.{pow_order, widened_wide}
use Rattle.pr_interpreter.proofs.SpanLemmas.{shorten_bounds, shorten_holds, widen_answers, scale_parts}
use Rattle.pr_interpreter.proofs.SpanLemmas.{digits_and_excess}
use Rattle.pr_interpreter.proofs.RangeLemmas.{InRange, either_branch, in_range_answer, in_range_facts}

-- the exact magnitude is near itself
pub exact_near : (error p q r : ℕ) → r * q ≡ p → IsNear error p q r
exact_near error p q r e =
    let less : 2 ^ error - 1 ≤ 2 ^ error = omega arith in
    let more : 2 ^ error ≤ 2 ^ error + 1 = omega arith in
    let down = mul-le-mul_left p less in
    let up = mul-le-mul_left p more in
    record { above = rw e (omega arith); below = rw e (omega arith) }

-- widening keeps what a span holds
pub widen_keeps : (error : ℕ) (s : Span) (p q : ℕ) → error ≤ s.scale → Holds s p q → Holds (widen error s) p q
unfolding widen
widen_keeps error s p q scale h =
    let parts = scale_parts s.scale error scale in
    let low = rw parts at h.above in
    let high = rw parts at h.below in
    let less : 2 ^ error - 1 ≤ 2 ^ error = omega arith in
    let more : 2 ^ error ≤ 2 ^ error + 1 = omega arith in
    let down = mul-le-mul_left (s.low * 2 ^ (s.scale - error) * q) less in
    let up = mul-le-mul_left (s.high * 2 ^ (s.scale - error) * q) more in
    record { above = omega arith; below = omega arith }

-- 0 is answered only where the span has it
pub tiny_holds : (t : Span) (p q : ℕ) → 0 < q → InRange t → Holds t p q → p < 2 ^ smallest_bits * q → Holds t 0 1
tiny_holds t p q pos range h tiny =
    elim range.large [
      | inl none ↦ record { above = rw none (omega arith); below = omega arith }
      | inr large ↦
          let least = mul-le-mul_right {m = 2 ^ smallest_bits} {n = t.low * 2 ^ t.scale} q large in
          absurd (omega (arith, h.above))
    ]

-- what is answered near a span is in the answer
pub around_holds : (error : ℕ) (s t : Span) (p q r : ℕ)
    → error ≤ 32 → s.low ≤ s.high → s.high ≤ 2 ^ 40 → s.scale ≤ 1000 → 0 < q → Holds s p q
    → IsNear error p q r ⊎ ((p < 2 ^ smallest_bits * q) × (r ≡ 0))
    → around error s ≡ Ok t → Holds t r 1
unfolding around
around_holds error s t p q r small ordered short scale pos h may e =
    elim (either_branch (nat_le error s.scale) (in_range (shorten end_digits (widen error s))) (Err NotCertain) t e) [
      | inl found ↦
          let within = leb-true error s.scale found.0 in
          let wide = widened_wide error s small ordered short scale in
          let bounds = shorten_bounds end_digits (widen error s) wide in
          let fit : (shorten end_digits (widen error s)).high < 2 ^ 127 = omega (arith, bounds.high) in
          let ok = in_range_answer (shorten end_digits (widen error s)) t bounds.ordered fit found.1 in
          subst (λ (u : Span). Holds u r 1) ok.0 (elim may [
            | inl near ↦ shorten_holds end_digits (widen error s) r 1 (widen_answers error s p q r within pos h near)
            | inr tiny ↦
                let kept = shorten_holds end_digits (widen error s) p q (widen_keeps error s p q within h) in
                rw tiny.1 (tiny_holds (shorten end_digits (widen error s)) p q pos ok.1 kept tiny.0)
          ])
      | inr none ↦ absurd (cc)
    ]

-- digits that are 0 are dropped exactly
pub dropped_exact : (n k digits : ℕ) → n % 2 ^ k ≡ 0 → n < 2 ^ digits * 2 ^ k
    → (n / 2 ^ k ≡ (n + (2 ^ k - 1)) / 2 ^ k) × (n / 2 ^ k < 2 ^ digits)
dropped_exact n k digits whole below =
    let unit = pow_pos k in
    let split = shr_split n k in
    let e : n / 2 ^ k * 2 ^ k ≡ n = omega arith in
    let rest : 2 ^ k - 1 < 2 ^ k = omega arith in
    let up = div-mul-add (n / 2 ^ k) (2 ^ k) (2 ^ k - 1) rest in
    let least : n / 2 ^ k * 2 ^ k < 2 ^ digits * 2 ^ k = omega arith in
    (subst (λ (x : ℕ). n / 2 ^ k ≡ (x + (2 ^ k - 1)) / 2 ^ k) e (sym up), lt_of_mul-lt-mul_right (2 ^ k) least)

-- a span that has the form is shortened exactly
pub exact_shorten : (digits : ℕ) (s : Span) → s.high < 2 ^ 127 → has_form digits s ≡ true
    → ((shorten digits s).low ≡ (shorten digits s).high) × ((shorten digits s).low < 2 ^ digits)
unfolding has_form shorten drop_digits
exact_shorten digits s high e =
    let k = bit_length s.high - digits in
    let parts = and_parts (s.low == s.high) ((s.high % 2 ^ k) == 0) e in
    let same = eqb-true s.low s.high parts.0 in
    let whole = eqb-true (s.high % 2 ^ k) 0 parts.1 in
    let dropped = dropped_exact s.high k digits whole (digits_and_excess s.high digits high) in
    rw same dropped

-- what a span of one magnitude holds
pub one_magnitude : (t : Span) (p q : ℕ) → t.low ≡ t.high → Holds t p q → t.low * 2 ^ t.scale * q ≡ p
one_magnitude t p q same h =
    let below = subst (λ (n : ℕ). p ≤ n * 2 ^ t.scale * q) (sym same) h.below in omega (arith, h.above)

pub one_holds : (t : Span) (r : ℕ) → t.low ≡ t.high → r ≡ t.low * 2 ^ t.scale → Holds t r 1
one_holds t r same e =
    let up : t.low * 2 ^ t.scale ≤ t.high * 2 ^ t.scale = rw same (omega arith) in
    record { above = omega arith; below = omega arith }

-- a magnitude in range is 0 or large
pub formed_large : (t : Span) → InRange t → (t.low * 2 ^ t.scale ≡ 0) ⊎ (2 ^ smallest_bits ≤ t.low * 2 ^ t.scale)
formed_large t range = elim range.large [ inl none ↦ inl (rw none (omega arith)) | inr large ↦ inr large ]

-- an exact magnitude that has the form is the answer
pub exact_holds : (digits error : ℕ) (s t : Span) (p q r : ℕ)
    → IsWide s → digits ≤ 40 → 0 < q → Holds s p q → MayAnswer digits error p q r → has_form digits s ≡ true
    → in_range (shorten digits s) ≡ Ok t → Holds t r 1
exact_holds digits error s t p q r wide few pos h may form e =
    let bounds = shorten_bounds digits s wide in
    let ordered = pow_order digits 40 few in
    let fit : (shorten digits s).high < 2 ^ 127 = omega (arith, bounds.high) in
    let ok = in_range_answer (shorten digits s) t bounds.ordered fit e in
    let exact = exact_shorten digits s wide.high form in
    let kept = shorten_holds digits s p q h in
    let value = one_magnitude (shorten digits s) p q exact.0 kept in
    let small = subst (λ (n : ℕ). n * 2 ^ (shorten digits s).scale < 2 ^ largest_bits) (sym exact.0) ok.1.small in
    let formed : HasForm digits ((shorten digits s).low * 2 ^ (shorten digits s).scale) = record {
      mantissa = (shorten digits s).low;
      exponent = (shorten digits s).scale;
      short = exact.1;
      value = refl;
      small = small;
      large = formed_large (shorten digits s) ok.1;
    } in
    subst (λ (u : Span). Holds u r 1) ok.0 (elim may [
      | inl itself ↦
          let same = eq_of_mul-eq-mul_right q pos r ((shorten digits s).low * 2 ^ (shorten digits s).scale) (itself.1
          ∙ sym value) in
          one_holds (shorten digits s) r exact.0 same
      | inr other ↦ elim other [
        | inl tiny ↦ rw tiny.1 (tiny_holds (shorten digits s) p q pos ok.1 kept tiny.0)
        | inr near ↦ absurd (near.0 ((shorten digits s).low * 2 ^ (shorten digits s).scale) formed value)
      ]
    ])

-- what the machine may answer is in the answer
pub answer_holds : (digits error : ℕ) (s t : Span) (p q r : ℕ)
    → IsWide s → s.scale ≤ 800 → digits ≤ 40 → error ≤ 32 → 0 < q → Holds s p q → MayAnswer digits error p q r
    → answer digits error s ≡ Ok t → Holds t r 1
unfolding answer
answer_holds digits error s t p q r wide scale few small pos h may e =
    elim (either_branch (has_form digits s) (in_range (shorten digits s)) (around error (shorten end_digits s)) t e) [
      | inl exact ↦ exact_holds digits error s t p q r wide few pos h may exact.0 exact.1
      | inr inexact ↦
          let bounds = shorten_bounds end_digits s wide in
          let fit : (shorten end_digits s).scale ≤ 1000 = omega (arith, bounds.most) in
          let kept = shorten_holds end_digits s p q h in
          around_holds error (shorten end_digits s) t p q r small bounds.ordered bounds.high fit pos kept
          (elim may [
            | inl itself ↦ inl (exact_near error p q r itself.1)
            | inr other ↦ elim other [ inl tiny ↦ inr tiny | inr near ↦ inl near.1 ]
          ])
          inexact.1
    ]

-- an if whose branches meet a condition, where they have a result
pub ok_or_fault : (b : Bool) (s : Span) (fault : NumberFault) (P : Span → Type 0) → (b ≡ true → P s)
    → IfOk (if b then Ok s else Err fault) P
ok_or_fault true s fault P h = h refl
ok_or_fault false s fault P h = tt

pub branch_or_branch : (b : Bool) (x y : Result Span NumberFault) (P : Span → Type 0)
    → (b ≡ true → IfOk x P) → (b ≡ false → IfOk y P) → IfOk (if b then x else y) P
branch_or_branch true x y P h k = h refl
branch_or_branch false x y P h k = k refl

-- the answer's ends are short
pub in_range_short : (s : Span) → s.low ≤ s.high → s.high ≤ 2 ^ 40 → IfOk (in_range s) IsShort
unfolding in_range
in_range_short s ordered high =
    let fit : s.high < 2 ^ 127 = omega arith in
    ok_or_fault (is_in_range s) s (if is_too_large s then Overflow
    else NotCertain) IsShort (λ (e : is_in_range s ≡ true).
    let facts = in_range_facts s ordered fit e in
    record { ordered = ordered; high = high; scale = facts.scale })

pub exact_short : (digits : ℕ) (s : Span) → IsWide s → digits ≤ 40 → IfOk (in_range (shorten digits s)) IsShort
exact_short digits s wide few =
    let bounds = shorten_bounds digits s wide in
    let ordered = pow_order digits 40 few in
    in_range_short (shorten digits s) bounds.ordered (omega (arith, bounds.high))

pub around_short : (error : ℕ) (s : Span) → error ≤ 32 → s.low ≤ s.high → s.high ≤ 2 ^ 40 → s.scale ≤ 1000
    → IfOk (around error s) IsShort
unfolding around
around_short error s small ordered short scale =
    branch_or_branch (nat_le error s.scale) (in_range (shorten end_digits (widen error s))) (Err NotCertain) IsShort
    (λ (_ : nat_le error s.scale ≡ true). let few : 40 ≤ 40 = omega arith in exact_short 40 (widen error s)
    (widened_wide error s small ordered short scale) few)
    (λ (_ : nat_le error s.scale ≡ false). tt)

pub shortened_short : (error : ℕ) (s : Span) → error ≤ 32 → IsWide s → s.scale ≤ 800
    → IfOk (around error (shorten end_digits s)) IsShort
shortened_short error s small wide scale =
    let bounds = shorten_bounds end_digits s wide in
    let fit : (shorten end_digits s).scale ≤ 1000 = omega (arith, bounds.most) in
    around_short error (shorten end_digits s) small bounds.ordered bounds.high fit
