use Rattle.std.proofs.Common.{◌≡◌, ℕ, zero, suc, ◌+◌, ◌-◌, ◌*◌, ◌/◌, ◌^◌, ◌<◌, ◌≤◌, ◌==◌}
use Rattle.std.proofs.Common.{true, false, nat_le, if◌then◌else◌, arith, ap, sym, subst, refl, ◌∙◌, inl, inr}
use Rattle.std.proofs.Common.{Result, Ok, Err, IfOk}
use Rattle.std.proofs.Math.Nat.{div-le_self, div-mul-le_self, mul-le-mul}
use Rattle.std.proofs.Math.Nat.{mul-le-mul_right, mul-pos, pow-succ', pow-zero}
use Rattle.std.proofs.lemmas.Bool.{eqb-false, leb-true}
use Rattle.std.proofs.lemmas.Nat.{pow_pos}
use Rattle.pr_interpreter.specs.Machine.{MayBeNear, unit_bits}
use Rattle.pr_interpreter.specs.Numbers.{quotient_digits, quotient_scale, span_product, span_quotient}
use Rattle.pr_interpreter.specs.Powers.{IsPart, near_span, one_span, over_span, part_digits, power_error, power_or_over}
use Rattle.pr_interpreter.specs.Powers.{span_power, with_factor, with_factors, with_span}
use Rattle.pr_interpreter.specs.Spans.{Holds, IsShort, IsWide, end_digits, in_range, is_in_range, is_too_large, shorten}
use Rattle.pr_interpreter.specs.declared.span.Span.{Span}
use Rattle.pr_interpreter.specs.declared.fault.NumberFault.{NumberFault}
use Rattle.pr_interpreter.specs.declared.fault.NumberFault.TheVariants.{NotCertain, Overflow}
use Rattle.pr_interpreter.proofs.AnswerLemmas.{ok_or_fault}
use Rattle.pr_interpreter.proofs.NumberLemmas.{ceiling_of, power_sum, power_sums, product_above, product_below}
use Rattle.pr_interpreter.proofs.NumberLemmas.{quotient_above, quotient_below, quotient_order}
use Rattle.pr_interpreter.proofs.RangeLemmas.{either_branch, in_range_answer, in_range_facts}
use Rattle.pr_interpreter.proofs.RootLemmas.{near_holds}
use Rattle.pr_interpreter.proofs.SpanLemmas.{shorten_bounds, shorten_holds}

-- ---- products

pub short_part : (s : Span) → IsShort s → IsPart s
short_part s h =
    record { ordered = h.ordered; high = omega (arith, h.high); scale = h.scale }

pub part_product : (a b c d : ℕ) → a ≤ b → b ≤ 2 ^ 63 → c ≤ d → d ≤ 2 ^ 40 → (a * c ≤ b * d) × (b * d ≤ 2 ^ 103)
part_product a b c d first small second little = (mul-le-mul first second, mul-le-mul small little)

pub factor_wide : (t s : Span) → IsPart t → IsShort s → IsWide (span_product t s)
factor_wide t s part short =
    let ends = mul-le-mul part.ordered short.ordered in
    let high = mul-le-mul part.high short.high in
    record { ordered = ends; high = omega (arith, high); scale = omega (arith, part.scale, short.scale) }

-- what fits one more factor, where it is in range
in_range_part : (s : Span) → s.low ≤ s.high → s.high ≤ 2 ^ 63 → IfOk (in_range s) IsPart
unfolding in_range
in_range_part s ordered high =
    let fit : s.high < 2 ^ 127 = omega arith in
    ok_or_fault (is_in_range s) s (if is_too_large s then Overflow else NotCertain) IsPart
    (λ (e : is_in_range s ≡ true). let facts = in_range_facts s ordered fit e in
    record { ordered = ordered; high = high; scale = facts.scale })

pub factor_part : (t s : Span) → IsPart t → IsShort s → IfOk (in_range (shorten part_digits (span_product t s))) IsPart
factor_part t s part short =
    let bounds = shorten_bounds part_digits (span_product t s) (factor_wide t s part short) in
    in_range_part (shorten part_digits (span_product t s)) bounds.ordered bounds.high

pub factor_holds : (t s : Span) (p q m : ℕ) → unit_bits ≤ t.scale + s.scale → Holds t p q → Holds s m 1
    → Holds (span_product t s) (p * m) (q * 2 ^ unit_bits)
factor_holds t s p q m scale first second =
    let powers = power_sum unit_bits t.scale s.scale scale in
    let v = 2 ^ (t.scale + s.scale - unit_bits) in
    let with_q = ap (λ (k : ℕ). q * k) powers in
    let same : v * (q * 2 ^ unit_bits) ≡ 2 ^ t.scale * q * 2 ^ s.scale = omega (arith, with_q) in
    let down = product_below t.low s.low (2 ^ t.scale * q) (2 ^ s.scale) v (q * 2 ^ unit_bits) p m same
    (omega (arith, first.above)) (omega (arith, second.above)) in
    let up = product_above t.high s.high (2 ^ t.scale * q) (2 ^ s.scale) v (q * 2 ^ unit_bits) p m same
    (omega (arith, first.below)) (omega (arith, second.below)) in
    record { above = down; below = up }

-- what is left of a product
pub record Held (u : Span) (p q : ℕ) : Type 0 where
  pub part : IsPart u
  pub holds : Holds u p q

-- the same of equal quotients
moved : (u : Span) (p q m n : ℕ) → p ≡ m → q ≡ n → Held u p q → Held u m n
moved u p q m n e f h = subst (λ (k : ℕ). Held u k n) e (subst (λ (k : ℕ). Held u p k) f h)

pub factor_step : (t s u : Span) (p q m : ℕ) → IsPart t → IsShort s → Holds t p q → Holds s m 1
    → with_factor t s ≡ Ok u → Held u (p * m) (q * 2 ^ unit_bits)
unfolding with_factor
factor_step t s u p q m part short first second e =
    elim (either_branch (nat_le unit_bits (t.scale + s.scale)) (in_range (shorten part_digits (span_product t s)))
    (Err NotCertain) u e) [
      | inl found ↦
          let scale = leb-true unit_bits (t.scale + s.scale) found.0 in
          let bounds = shorten_bounds part_digits (span_product t s) (factor_wide t s part short) in
          let fit : (shorten part_digits (span_product t s)).high < 2 ^ 127 = omega (arith, bounds.high) in
          let ok = in_range_answer (shorten part_digits (span_product t s)) u bounds.ordered fit found.1 in
          let held = shorten_holds part_digits (span_product t s) (p * m) (q * 2 ^ unit_bits)
          (factor_holds t s p q m scale first second) in
          subst (λ (w : Span). Held w (p * m) (q * 2 ^ unit_bits)) ok.0 (record {
            part = record { ordered = bounds.ordered; high = bounds.high; scale = ok.1.scale };
            holds = held;
          })
      | inr none ↦ absurd (cc)
    ]

abbrev ok_span : Span → Result Span NumberFault
ok_span s = Ok s

same_span : (s t : Span) → ok_span s ≡ Ok t → s ≡ t
same_span s t e = cc

-- what goes on had a span
with_span_ok : (r : Result Span NumberFault) (more : Span → Result Span NumberFault) (u : Span)
    → with_span r more ≡ Ok u → (s : Span) × (r ≡ Ok s) × (more s ≡ Ok u)
with_span_ok (Ok s) more u e = (s, refl, e)
with_span_ok (Err fault) more u e = absurd (cc)

pub factors_hold : (n : ℕ) (t s u : Span) (p q m : ℕ) → IsPart t → IsShort s → Holds t p q → Holds s m 1
    → with_factors n t s ≡ Ok u → Held u (p * m ^ n) (q * (2 ^ unit_bits) ^ n)
factors_hold zero t s u p q m part short first second e =
    let none = pow-zero m in
    let unit = pow-zero (2 ^ unit_bits) in
    let same_p : p * m ^ zero ≡ p = omega (arith, ap (λ (k : ℕ). p * k) none) in
    let same_q : q * (2 ^ unit_bits) ^ zero ≡ q = omega (arith, ap (λ (k : ℕ). q * k) unit) in
    subst (λ (w : Span). Held w (p * m ^ zero) (q * (2 ^ unit_bits) ^ zero)) (same_span t u e)
    (moved t p q (p * m ^ zero) (q * (2 ^ unit_bits) ^ zero) (sym same_p) (sym same_q) (record { part = part; holds = first }))
factors_hold (suc n) t s u p q m part short first second e =
    let found = with_span_ok (with_factor t s) (λ (v : Span). with_factors n v s) u e in
    let step = factor_step t s found.0 p q m part short first second found.1 in
    let rest = factors_hold n found.0 s u (p * m) (q * 2 ^ unit_bits) m step.part short step.holds second found.2 in
    let more = pow-succ' m n in
    let unit = pow-succ' (2 ^ unit_bits) n in
    let same_p : p * m ^ suc n ≡ p * m * m ^ n = omega (arith, ap (λ (k : ℕ). p * k) more) in
    let same_q : q * (2 ^ unit_bits) ^ suc n ≡ q * 2 ^ unit_bits * (2 ^ unit_bits) ^ n =
    omega (arith, ap (λ (k : ℕ). q * k) unit) in
    moved u (p * m * m ^ n) (q * 2 ^ unit_bits * (2 ^ unit_bits) ^ n) (p * m ^ suc n) (q * (2 ^ unit_bits) ^ suc n)
    (sym same_p) (sym same_q) rest

-- ---- powers and one over them

pub part_wide : (s : Span) → IsPart s → IsWide s
part_wide s h = record { ordered = h.ordered; high = omega (arith, h.high); scale = omega (arith, h.scale) }

one_less : (n : ℕ) → 0 < n → suc (n - 1) ≡ n
one_less n h = omega arith

pub product_held : (n : ℕ) (s u : Span) (m : ℕ) → 0 < n → IsShort s → Holds s m 1 → with_factors (n - 1) s s ≡ Ok u
    → Held u (m ^ n) ((2 ^ unit_bits) ^ (n - 1))
product_held n s u m some short h e =
    let held = factors_hold (n - 1) s s u m 1 m (short_part s short) short h h e in
    let more = pow-succ' m (n - 1) in
    let back = ap (λ (k : ℕ). m ^ k) (one_less n some) in
    let same : m ^ n ≡ m * m ^ (n - 1) = sym back ∙ more in
    let one : (2 ^ unit_bits) ^ (n - 1) ≡ 1 * (2 ^ unit_bits) ^ (n - 1) = omega arith in
    moved u (m * m ^ (n - 1)) (1 * (2 ^ unit_bits) ^ (n - 1)) (m ^ n) ((2 ^ unit_bits) ^ (n - 1)) (sym same) (sym one) held

-- a power of what is above 0
pub some_power : (m n : ℕ) → 0 < m → 0 < m ^ n
some_power m zero h = let one = pow-zero m in omega (arith, one)
some_power m (suc n) h =
    let more = pow-succ' m n in let product = mul-pos h (some_power m n h) in omega (arith, more, product)

pub power_holds : (n : ℕ) (s t : Span) (m r : ℕ) → 0 < n → IsShort s → Holds s m 1
    → MayBeNear power_error (m ^ n) ((2 ^ unit_bits) ^ (n - 1)) r → span_power false n s ≡ Ok t → Holds t r 1
unfolding span_power
power_holds n s t m r some short h may e =
    let found = with_span_ok (with_factors (n - 1) s s) (λ (part : Span). power_or_over false part) t e in
    let held = product_held n s found.0 m some short h found.1 in
    let unit = some_power (2 ^ unit_bits) (n - 1) (pow_pos unit_bits) in
    near_holds found.0 t (m ^ n) ((2 ^ unit_bits) ^ (n - 1)) r (part_wide found.0 held.part)
    (omega (arith, held.part.scale)) unit held.holds may found.2

pub over_wide : (s : Span) → s.low ≤ s.high → s.high ≤ 2 ^ 40 → 0 < s.low
    → IsWide (span_quotient one_span s) × ((span_quotient one_span s).scale ≤ 800)
over_wide s ordered short some =
    let small = div-le_self (1 * 2 ^ quotient_digits + (s.low - 1)) s.low in
    let same : 1 * 2 ^ quotient_digits ≤ 1 * 2 ^ quotient_digits = omega arith in (
      record {
        ordered = quotient_order (1 * 2 ^ quotient_digits) (1 * 2 ^ quotient_digits) s.low s.high same some ordered;
        high = omega (arith, small);
        scale = omega arith;
      },
      omega arith,
    )

-- one over a quotient
pub over_holds : (s : Span) (p q : ℕ) → s.scale ≤ unit_bits + quotient_scale → 0 < s.low → Holds s p q
    → Holds (span_quotient one_span s) (q * 2 ^ unit_bits * 2 ^ unit_bits) p
over_holds s p q scale some h =
    let sum : unit_bits + quotient_scale - s.scale + s.scale + quotient_digits ≡ unit_bits + unit_bits = omega arith in
    let powers = power_sums (unit_bits + quotient_scale - s.scale) s.scale quotient_digits unit_bits unit_bits sum in
    let v = 2 ^ (unit_bits + quotient_scale - s.scale) in
    let d = 2 ^ quotient_digits in
    let u = 2 ^ unit_bits in
    let low = div-mul-le_self (1 * d) s.high in
    let high = ceiling_of (1 * d) s.low some in
    let low_q = mul-le-mul_right {m = 1 * d / s.high * s.high} {n = 1 * d} q low in
    let high_q = mul-le-mul_right {m = 1 * d} {n = (1 * d + (s.low - 1)) / s.low * s.low} q high in
    let self : q * u ≤ q * u = omega arith in
    let down = quotient_below (1 * d / s.high) (s.high * q) q d u (2 ^ s.scale) v u (q * u) p powers
    (omega (arith, low_q)) self (omega (arith, h.below)) in
    let up = quotient_above ((1 * d + (s.low - 1)) / s.low) (s.low * q) q d u (2 ^ s.scale) v u (q * u) p powers
    (omega (arith, high_q)) self (omega (arith, h.above)) in
    record { above = down; below = up }

-- a quotient that is not 0
quotient_some : (s : Span) (p q : ℕ) → 0 < s.low → 0 < q → Holds s p q → 0 < p
quotient_some s p q some positive h =
    let least = mul-pos some (pow_pos s.scale) in
    let more = mul-pos least positive in
    omega (arith, h.above, more)

over_span_holds : (s t : Span) (p q r : ℕ) → s.low ≤ s.high → s.high ≤ 2 ^ 40 → 0 < q → Holds s p q
    → MayBeNear power_error (q * 2 ^ unit_bits * 2 ^ unit_bits) p r → over_span s ≡ Ok t → Holds t r 1
unfolding over_span
over_span_holds s t p q r ordered short positive h may e =
    elim (either_branch (s.low == 0) (Err NotCertain) (if nat_le s.scale (unit_bits + quotient_scale)
    then near_span (span_quotient one_span s) else Err NotCertain) t e) [
      | inl none ↦ absurd (cc)
      | inr more ↦
          let other = eqb-false s.low 0 more.0 in
          let some : 0 < s.low = omega arith in
          elim (either_branch (nat_le s.scale (unit_bits + quotient_scale)) (near_span (span_quotient one_span s))
          (Err NotCertain) t more.1) [
            | inl found ↦
                let scale = leb-true s.scale (unit_bits + quotient_scale) found.0 in
                let wide = over_wide s ordered short some in
                near_holds (span_quotient one_span s) t (q * 2 ^ unit_bits * 2 ^ unit_bits) p r wide.0 wide.1
                (quotient_some s p q some positive h) (over_holds s p q scale some h) may found.1
            | inr none ↦ absurd (cc)
          ]
    ]

plus_one : (n : ℕ) → suc n ≡ n + 1
plus_one n = omega arith

-- the units of one over a power
unit_powers : (u n : ℕ) → 0 < n → u ^ (n - 1) * u * u ≡ u ^ (n + 1)
unit_powers u n some =
    let inner = pow-succ' u (n - 1) in
    let back = ap (λ (k : ℕ). u ^ k) (one_less n some) in
    let outer = pow-succ' u n in
    let last = ap (λ (k : ℕ). u ^ k) (plus_one n) in
    let one : u ^ (n - 1) * u ≡ u ^ n = omega (arith, inner, back) in
    let two = ap (λ (k : ℕ). k * u) one in
    omega (arith, two, outer, last)

pub part_holds : (n : ℕ) (s t : Span) (m r : ℕ) → 0 < n → IsShort s → Holds s m 1
    → MayBeNear power_error ((2 ^ unit_bits) ^ (n + 1)) (m ^ n) r → span_power true n s ≡ Ok t → Holds t r 1
unfolding span_power
part_holds n s t m r some short h may e =
    let found = with_span_ok (with_factors (n - 1) s s) (λ (part : Span). power_or_over true part) t e in
    let held = product_held n s found.0 m some short h found.1 in
    let unit = some_power (2 ^ unit_bits) (n - 1) (pow_pos unit_bits) in
    let bounds = shorten_bounds end_digits found.0 (part_wide found.0 held.part) in
    let kept = shorten_holds end_digits found.0 (m ^ n) ((2 ^ unit_bits) ^ (n - 1)) held.holds in
    let units = unit_powers (2 ^ unit_bits) n some in
    over_span_holds (shorten end_digits found.0) t (m ^ n) ((2 ^ unit_bits) ^ (n - 1)) r bounds.ordered bounds.high unit
    kept (subst (λ (k : ℕ). MayBeNear power_error k (m ^ n) r) (sym units) may) found.2

base_some : (m n : ℕ) → 0 < n → 0 < m ^ n → 0 < m
base_some zero zero some h = absurd (omega arith)
base_some zero (suc n) some h = let more = pow-succ' zero n in absurd (omega (arith, more))
base_some (suc m) n some h = omega arith

over_some : (s t : Span) (p q : ℕ) → 0 < q → Holds s p q → over_span s ≡ Ok t → 0 < p
unfolding over_span
over_some s t p q positive h e =
    elim (either_branch (s.low == 0) (Err NotCertain) (if nat_le s.scale (unit_bits + quotient_scale)
    then near_span (span_quotient one_span s) else Err NotCertain) t e) [
      | inl none ↦ absurd (cc)
      | inr more ↦
          let other = eqb-false s.low 0 more.0 in
          let some : 0 < s.low = omega arith in
          quotient_some s p q some positive h
    ]

-- what has one over its power is not 0
pub part_some : (n : ℕ) (s t : Span) (m : ℕ) → 0 < n → IsShort s → Holds s m 1 → span_power true n s ≡ Ok t → 0 < m
unfolding span_power
part_some n s t m some short h e =
    let found = with_span_ok (with_factors (n - 1) s s) (λ (part : Span). power_or_over true part) t e in
    let held = product_held n s found.0 m some short h found.1 in
    let unit = some_power (2 ^ unit_bits) (n - 1) (pow_pos unit_bits) in
    let kept = shorten_holds end_digits found.0 (m ^ n) ((2 ^ unit_bits) ^ (n - 1)) held.holds in
    base_some m n some (over_some (shorten end_digits found.0) t (m ^ n) ((2 ^ unit_bits) ^ (n - 1)) unit kept found.2)

-- ---- the loop over factors

pub factors_on : (n : ℕ) (part s next : Span) (whole : Result Span NumberFault) → 0 < n
    → with_factor part s ≡ Ok next → with_factors n part s ≡ whole → with_factors (n - 1) next s ≡ whole
factors_on zero part s next whole some is all = absurd (omega arith)
factors_on (suc n) part s next whole some is all =
    let back : suc n - 1 ≡ n = omega arith in
    let step : with_factors (suc n) part s ≡ with_factors n next s = rw is refl in
    ap (λ (k : ℕ). with_factors k next s) back ∙ (sym step ∙ all)

pub factors_refused : (n : ℕ) (part s : Span) (fault : NumberFault) (whole : Result Span NumberFault) → 0 < n
    → with_factor part s ≡ Err fault → with_factors n part s ≡ whole → whole ≡ Err fault
factors_refused zero part s fault whole some is all = absurd (omega arith)
factors_refused (suc n) part s fault whole some is all =
    let step : with_factors (suc n) part s ≡ Err fault = rw is refl in sym all ∙ step

pub factors_done : (n : ℕ) (part s : Span) (whole : Result Span NumberFault) → n ≡ 0 → with_factors n part s ≡ whole
    → whole ≡ Ok part
factors_done n part s whole none all = sym all ∙ ap (λ (k : ℕ). with_factors k part s) none
