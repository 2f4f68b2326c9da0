use Rattle.std.proofs.Common.{◌≡◌, ℕ, zero, suc, ◌+◌, ◌-◌, ◌*◌, ◌/◌, ◌%◌, ◌^◌, ◌<◌, ◌≤◌, ◌==◌, true, nat_lt, arith, sym}
use Rattle.std.proofs.Common.{subst, refl, ap, ◌∙◌, inl, inr, Ok}
use Rattle.std.proofs.Math.Nat.{mul-lt-mul_of_pos_right, eq_of_mul-eq-mul_right, mul-mod_left, mul-pos}
use Rattle.std.proofs.lemmas.Bool.{cases_lt, eq-eqb, le-leb, lt-ltb, or_right}
use Rattle.std.proofs.lemmas.Nat.{pow_pos, pow-add, mod_below, shr_split}
use Rattle.pr_interpreter.specs.Machine.{HasForm, smallest_bits, largest_bits}
use Rattle.pr_interpreter.specs.Spans.{bit_length, drop_digits, shorten, is_in_range, in_range, has_form, answer}
use Rattle.pr_interpreter.specs.NumberLaws.{FormsAreKept}
use Rattle.pr_interpreter.specs.declared.span.Span.{Span}
use Rattle.pr_interpreter.proofs.AnswerLemmas.{exact_shorten}
use Rattle.pr_interpreter.proofs.BitLemmas.{pow_order}
use Rattle.pr_interpreter.proofs.RangeLemmas.{fits_above, fits_below}
use Rattle.pr_interpreter.proofs.SpanLemmas.{shorten_bounds}

-- a number that has the form has zeros at its end, as many as it has too many digits
pub exponent_large : (n scale digits mantissa exponent : ℕ) → 0 < n → n < 2 ^ 127 → mantissa < 2 ^ digits
    → n * 2 ^ scale ≡ mantissa * 2 ^ exponent → digits < bit_length n → bit_length n - digits + scale ≤ exponent
exponent_large n scale digits mantissa exponent some wide short e long =
    elim (cases_lt exponent (bit_length n - digits + scale)) [
      | inl small ↦
          let fit : n < 2 ^ 128 = omega arith in
          let order : digits + exponent < bit_length n + scale = omega arith in
          let above = fits_above n scale (digits + exponent) some fit order in
          let below = mul-lt-mul_of_pos_right {m = mantissa} {n = 2 ^ digits} {k = 2 ^ exponent} short
          (pow_pos exponent) in
          absurd (omega (arith, pow-add 2 digits exponent))
      | inr large ↦ large
    ]

pub zeros_at_end : (n scale mantissa exponent k : ℕ) → n * 2 ^ scale ≡ mantissa * 2 ^ exponent → k + scale ≤ exponent
    → n % 2 ^ k ≡ 0
zeros_at_end n scale mantissa exponent k e large =
    let parts : exponent - (k + scale) + (k + scale) ≡ exponent = omega arith in
    let powers = sym (ap (λ (t : ℕ). 2 ^ t) parts) ∙ pow-add 2 (exponent - (k + scale)) (k + scale) in
    let inner = ap (λ (t : ℕ). mantissa * 2 ^ (exponent - (k + scale)) * t) (pow-add 2 k scale) in
    let outer = ap (λ (t : ℕ). mantissa * t) powers in
    let whole : n * 2 ^ scale ≡ mantissa * 2 ^ (exponent - (k + scale)) * 2 ^ k * 2 ^ scale = omega arith in
    let same = eq_of_mul-eq-mul_right (2 ^ scale) (pow_pos scale) n (mantissa * 2 ^ (exponent - (k + scale)) * 2 ^ k)
    whole in
    ap (λ (t : ℕ). t % 2 ^ k) same ∙ mul-mod_left (mantissa * 2 ^ (exponent - (k + scale))) (2 ^ k)

pub nothing_dropped : (n k : ℕ) → k ≡ 0 → n % 2 ^ k ≡ 0
nothing_dropped n k e =
    let one : 0 < 1 = omega arith in
    let below = mod_below n 1 one in
    rw e (omega arith)

pub ends_in_zeros : (n scale digits magnitude : ℕ) → 0 < n → n < 2 ^ 127 → n * 2 ^ scale ≡ magnitude
    → HasForm digits magnitude
    → n % 2 ^ (bit_length n - digits) ≡ 0
ends_in_zeros n scale digits magnitude some wide e form = elim (cases_lt digits (bit_length n)) [
  | inl long ↦
      let same = e ∙ form.value in
      zeros_at_end n scale form.mantissa form.exponent (bit_length n - digits) same
      (exponent_large n scale digits form.mantissa form.exponent some wide form.short same long)
  | inr short ↦ let none : bit_length n - digits ≡ 0 = omega arith in nothing_dropped n (bit_length n - digits) none
]

pub form_found : (digits : ℕ) (s : Span) → s.low ≡ s.high → s.high % 2 ^ (bit_length s.high - digits) ≡ 0
    → has_form digits s ≡ true
unfolding has_form
form_found digits s same zeros =
    rw (eq-eqb s.low s.high same, eq-eqb (s.high % 2 ^ (bit_length s.high - digits)) 0 zeros) refl

-- a magnitude that the machine can hold is in range
pub range_found : (t : Span) → t.low ≡ t.high → 0 < t.low → t.high < 2 ^ 127 → t.low * 2 ^ t.scale < 2 ^ largest_bits
    → 2 ^ smallest_bits ≤ t.low * 2 ^ t.scale → is_in_range t ≡ true
unfolding is_in_range
range_found t same some wide small large =
    let some_high : 0 < t.high = omega arith in
    let fit : t.high < 2 ^ 128 = omega arith in
    let fit_low : t.low < 2 ^ 128 = omega arith in
    let small_high = subst (λ (n : ℕ). n * 2 ^ t.scale < 2 ^ largest_bits) same small in
    let upper : bit_length t.high + t.scale ≤ largest_bits = elim (cases_lt largest_bits (bit_length t.high + t.scale)) [
      | inl over ↦ let above = fits_above t.high t.scale largest_bits some_high fit over in absurd (omega arith)
      | inr within ↦ within
    ] in
    let lower : smallest_bits < bit_length t.low + t.scale = elim (cases_lt smallest_bits (bit_length t.low + t.scale)) [
      | inl over ↦ over
      | inr within ↦ let below = fits_below t.low t.scale smallest_bits fit_low within in absurd (omega arith)
    ] in
    let first = le-leb (bit_length t.high + t.scale) largest_bits upper in
    let second = or_right (t.low == 0) (nat_lt smallest_bits (bit_length t.low + t.scale))
    (lt-ltb smallest_bits (bit_length t.low + t.scale) lower) in
    rw (first, second) refl

pub range_kept : (t : Span) → is_in_range t ≡ true → in_range t ≡ Ok t
unfolding in_range
range_kept t e = rw e refl

pub form_kept : (digits error : ℕ) (s : Span) → has_form digits s ≡ true → answer digits error s
    ≡ in_range (shorten digits s)
unfolding answer
form_kept digits error s e = rw e refl

-- what is shortened exactly keeps its magnitude
pub shortened_value : (digits : ℕ) (s : Span) → s.low % 2 ^ (bit_length s.high - digits) ≡ 0
    → (shorten digits s).low * 2 ^ (shorten digits s).scale ≡ s.low * 2 ^ s.scale
unfolding shorten drop_digits
shortened_value digits s zeros =
    let k = bit_length s.high - digits in
    let split = shr_split s.low k in
    let parts = ap (λ (t : ℕ). s.low / 2 ^ k * t) (pow-add 2 s.scale k) in
    let whole : s.low / 2 ^ k * 2 ^ k ≡ s.low = omega arith in
    let scaled = ap (λ (t : ℕ). t * 2 ^ s.scale) whole in
    omega arith

pub forms_are_kept : FormsAreKept
forms_are_kept digits error s wide few same some form =
    let wide_low : s.low < 2 ^ 127 = omega (arith, wide.high, wide.ordered) in
    let zeros_low = ends_in_zeros s.low s.scale digits (s.low * 2 ^ s.scale) some wide_low refl form in
    let zeros = subst (λ (n : ℕ). n % 2 ^ (bit_length n - digits) ≡ 0) same zeros_low in
    let zeros_of = subst (λ (n : ℕ). s.low % 2 ^ (bit_length n - digits) ≡ 0) same zeros_low in
    let found = form_found digits s same zeros in
    let exact = exact_shorten digits s wide.high found in
    let bounds = shorten_bounds digits s wide in
    let value = shortened_value digits s zeros_of in
    let ordered = pow_order digits 40 few in
    let short : (shorten digits s).high < 2 ^ 127 = omega (arith, bounds.high) in
    let large = form_large digits (s.low * 2 ^ s.scale) form (mul-pos some (pow_pos s.scale)) in
    let positive = low_positive (shorten digits s).low (2 ^ (shorten digits s).scale) (s.low * 2 ^ s.scale) value
    (mul-pos some (pow_pos s.scale)) in
    let small = subst (λ (n : ℕ). n < 2 ^ largest_bits) (sym value) form.small in
    let least = subst (λ (n : ℕ). 2 ^ smallest_bits ≤ n) (sym value) large in
    let range = range_found (shorten digits s) exact.0 positive short small least in
    (shorten digits s, form_kept digits error s found ∙ range_kept (shorten digits s) range, exact.0, value)
  where
    form_large : (digits magnitude : ℕ) → HasForm digits magnitude → 0 < magnitude → 2 ^ smallest_bits ≤ magnitude
    form_large digits magnitude form some = elim form.large [ inl none ↦ absurd (omega arith) | inr large ↦ large ]

    low_positive : (low unit magnitude : ℕ) → low * unit ≡ magnitude → 0 < magnitude → 0 < low
    low_positive zero unit magnitude e some = absurd (omega arith)
    low_positive (suc n) unit magnitude e some = omega arith
