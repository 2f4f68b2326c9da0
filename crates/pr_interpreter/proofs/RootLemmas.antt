use Rattle.std.proofs.Common.{◌≡◌, ℕ, zero, suc, ◌+◌, ◌-◌, ◌*◌, ◌/◌, ◌%◌, ◌^◌, ◌<◌, ◌≤◌, ◌==◌, Bool, true, false}
use Rattle.std.proofs.Common.{nat_le, if◌then◌else◌, arith, ap, refl, inl, inr, Ok}
use Rattle.std.proofs.Math.Nat.{mul-le-mul, mul-le-mul_right, two-pow-succ}
use Rattle.std.proofs.lemmas.Bool.{cases_lt, eqb-true, leb-true, leb-false}
use Rattle.pr_interpreter.specs.Machine.{IsNear, IsNearRoot, MayBeNear, unit_bits}
use Rattle.pr_interpreter.specs.Powers.{more_digits, near_span, power_error, root, root_above, root_span}
use Rattle.pr_interpreter.specs.Spans.{Holds, IsShort, IsWide, end_digits, shorten}
use Rattle.pr_interpreter.specs.declared.span.Span.{Span}
use Rattle.pr_interpreter.proofs.AnswerLemmas.{around_holds, exact_near}
use Rattle.pr_interpreter.proofs.BitLemmas.{pow_order}
use Rattle.pr_interpreter.proofs.NumberLemmas.{power_sums}
use Rattle.pr_interpreter.proofs.SpanLemmas.{shorten_bounds, shorten_holds}

-- ---- square roots of whole numbers

-- r is the square root of n, rounded down
pub record IsRoot (n r : ℕ) : Type 0 where
  pub below : r * r ≤ n
  pub above : n < (r + 1) * (r + 1)

root_digit : (r n : ℕ) (b : Bool) → IsRoot (n / 4) r → nat_le ((2 * r + 1) * (2 * r + 1)) n ≡ b
    → IsRoot n (if b then 2 * r + 1 else 2 * r)
root_digit r n true h e =
    let least = leb-true ((2 * r + 1) * (2 * r + 1)) n e in record { below = least; above = omega (arith, h.above) }
root_digit r n false h e =
    let most = leb-false ((2 * r + 1) * (2 * r + 1)) n e in
    record { below = omega (arith, h.below); above = omega (arith, most) }

pub root_is : (k n : ℕ) → n < 2 ^ (k + k) → IsRoot n (root k n)
unfolding root
root_is zero n h = record { below = omega arith; above = omega (arith, h) }
root_is (suc k) n h =
    let twice : suc k + suc k ≡ suc (suc (k + k)) = omega arith in
    let whole = ap (λ (m : ℕ). 2 ^ m) twice in
    let outer = two-pow-succ (suc (k + k)) in
    let inner = two-pow-succ (k + k) in
    let less : n / 4 < 2 ^ (k + k) = omega (arith, h, whole, outer, inner) in
    root_digit (root k (n / 4)) n _ (root_is k (n / 4) less) refl

-- squares are in the order of what is squared
pub squares_le : (a b : ℕ) → a * a ≤ b * b → a ≤ b
squares_le a b h = elim (cases_lt b a) [
  | inl less ↦
      let more : b + 1 ≤ a = omega arith in
      let squares = mul-le-mul more more in
      absurd (omega (arith, squares))
  | inr within ↦ within
]

roots_order : (n r s : ℕ) → r * r ≤ n → n < (s + 1) * (s + 1) → r ≤ s
roots_order n r s below above = elim (cases_lt s r) [
  | inl less ↦
      let more : s + 1 ≤ r = omega arith in
      let squares = mul-le-mul more more in
      absurd (omega (arith, squares))
  | inr within ↦ within
]

-- there is one root
pub root_alone : (n r : ℕ) → n < 2 ^ 127 → r * r ≤ n → n < (r + 1) * (r + 1) → r ≡ root 64 n
root_alone n r h below above =
    let fits : n < 2 ^ (64 + 64) = omega arith in
    let own = root_is 64 n fits in
    let least = roots_order n r (root 64 n) below own.above in
    let most = roots_order n (root 64 n) r own.below above in
    omega arith

root_up : (n r : ℕ) (b : Bool) → (r * r == n) ≡ b → n < (r + 1) * (r + 1)
    → n ≤ (if b then r else r + 1) * (if b then r else r + 1)
root_up n r true e h = let same = eqb-true (r * r) n e in omega (arith, same)
root_up n r false e h = omega (arith, h)

pub root_above_is : (n : ℕ) → n < 2 ^ 127 → n ≤ root_above 64 n * root_above 64 n
root_above_is n h =
    let fits : n < 2 ^ (64 + 64) = omega arith in
    root_up n (root 64 n) _ refl (root_is 64 n fits).above

root_small : (r : ℕ) (b : Bool) → (if b then r else r + 1) ≤ r + 1
root_small r true = omega arith
root_small r false = omega arith

pub root_above_most : (n : ℕ) → n < 2 ^ 127 → root_above 64 n ≤ 2 ^ 64
root_above_most n h =
    let fits : n < 2 ^ (64 + 64) = omega arith in
    let own = root_is 64 n fits in
    let small : root_above 64 n ≤ root 64 n + 1 = root_small (root 64 n) (root 64 n * root 64 n == n) in
    let least = roots_order (2 ^ 64 * 2 ^ 64 - 1) (root 64 n) (2 ^ 64 - 1) (omega (arith, own.below)) (omega arith) in
    omega arith

-- ---- roots of spans

abbrev pub raised : ℕ → Span → ℕ
raised end s = end * 2 ^ more_digits s

pub raised_fits : (end : ℕ) (s : Span) → end ≤ 2 ^ 40 → raised end s < 2 ^ 127
raised_fits end s h =
    let few : more_digits s ≤ 85 = omega arith in
    let power = pow_order (more_digits s) 85 few in
    let product = mul-le-mul h power in
    omega (arith, product)

pub root_wide : (s : Span) → IsShort s → IsWide (root_span s) × ((root_span s).scale ≤ 800)
unfolding root_span
root_wide s h =
    let least : s.low ≤ 2 ^ 40 = omega (arith, h.ordered, h.high) in
    let low = raised_fits s.low s least in
    let high = raised_fits s.high s h.high in
    let fits : raised s.low s < 2 ^ (64 + 64) = omega arith in
    let down = root_is 64 (raised s.low s) fits in
    let up = root_above_is (raised s.high s) high in
    let order : raised s.low s ≤ raised s.high s =
    mul-le-mul_right {m = s.low} {n = s.high} (2 ^ more_digits s) h.ordered in
    let most = root_above_most (raised s.high s) high in (
      record {
        ordered = squares_le (root 64 (raised s.low s)) (root_above 64 (raised s.high s))
            (omega (arith, down.below, up, order));
        high = omega (arith, most);
        scale = omega (arith, h.scale);
      },
      omega (arith, h.scale),
    )

root_powers : (scale : ℕ)
    → 2 ^ (84 + scale % 2) * 2 ^ (scale / 2 + 86) * 2 ^ (scale / 2 + 86) ≡ 2 ^ scale * 2 ^ unit_bits
root_powers scale =
    let sum : 84 + scale % 2 + (scale / 2 + 86) + (scale / 2 + 86) ≡ scale + unit_bits = omega arith in
    power_sums (84 + scale % 2) (scale / 2 + 86) (scale / 2 + 86) scale unit_bits sum

low_square : (r low m t v u x : ℕ) → m * t * t ≡ v * u → r * r ≤ low * m → low * v ≤ x → r * t * (r * t) ≤ x * u
low_square r low m t v u x e below h =
    let square = mul-le-mul_right {m = r * r} {n = low * m} (t * t) below in
    let same = ap (λ (k : ℕ). low * k) e in
    let over = mul-le-mul_right {m = low * v} {n = x} u h in
    omega (arith, square, same, over)

high_square : (r high m t v u x : ℕ) → m * t * t ≡ v * u → high * m ≤ r * r → x ≤ high * v → x * u ≤ r * t * (r * t)
high_square r high m t v u x e above h =
    let square = mul-le-mul_right {m = high * m} {n = r * r} (t * t) above in
    let same = ap (λ (k : ℕ). high * k) e in
    let over = mul-le-mul_right {m = x} {n = high * v} u h in
    omega (arith, square, same, over)

-- ---- what is near a root

near_below : (l d r e x : ℕ) → l * l ≤ x → x * (d * d) ≤ r * e * (r * e) → l * d ≤ r * e
near_below l d r e x below near =
    let squares = mul-le-mul_right {m = l * l} {n = x} (d * d) below in
    squares_le (l * d) (r * e) (omega (arith, squares, near))

near_above : (h f r e x : ℕ) → x ≤ h * h → r * e * (r * e) ≤ x * (f * f) → r * e ≤ h * f
near_above h f r e x above near =
    let squares = mul-le-mul_right {m = x} {n = h * h} (f * f) above in
    squares_le (r * e) (h * f) (omega (arith, squares, near))

-- a magnitude near which it is, between the ends
pub record Between (error l h r : ℕ) : Type 0 where
  pub middle : ℕ
  pub least : l ≤ middle
  pub most : middle ≤ h
  pub near : IsNear error middle 1 r

near_low : (error l r : ℕ) → r ≤ l → l * (2 ^ error - 1) ≤ r * 2 ^ error → IsNear error l 1 r
near_low error l r order below =
    let up = mul-le-mul_right {m = r} {n = l} (2 ^ error) order in
    record { above = omega arith; below = omega (arith, up) }

near_high : (error h r : ℕ) → h ≤ r → r * 2 ^ error ≤ h * (2 ^ error + 1) → IsNear error h 1 r
near_high error h r order above =
    let less : 2 ^ error - 1 ≤ 2 ^ error = omega arith in
    let down = mul-le-mul order less in
    record { above = omega (arith, down); below = omega arith }

pub between : (error l h r x : ℕ) → l * l ≤ x → x ≤ h * h
    → x * ((2 ^ error - 1) * (2 ^ error - 1)) ≤ r * 2 ^ error * (r * 2 ^ error)
    → r * 2 ^ error * (r * 2 ^ error) ≤ x * ((2 ^ error + 1) * (2 ^ error + 1)) → Between error l h r
between error l h r x low high above below =
    let order = squares_le l h (omega arith) in
    let down = near_below l (2 ^ error - 1) r (2 ^ error) x low above in
    let up = near_above h (2 ^ error + 1) r (2 ^ error) x high below in
    elim (cases_lt r l) [
      | inl less ↦
          let within : r ≤ l = omega arith in
          let same : l ≤ l = omega arith in
          record { middle = l; least = same; most = order; near = near_low error l r within down }
      | inr least ↦ elim (cases_lt h r) [
        | inl more ↦
            let within : h ≤ r = omega arith in
            let same : h ≤ h = omega arith in
            record { middle = h; least = order; most = same; near = near_high error h r within up }
        | inr most ↦
            let one : r * 1 ≡ r = omega arith in
            record { middle = r; least = least; most = most; near = exact_near error r 1 r one }
      ]
    ]

-- what is near the magnitudes of a span is in what may be answered
pub near_holds : (s t : Span) (p q r : ℕ) → IsWide s → s.scale ≤ 800 → 0 < q → Holds s p q → MayBeNear power_error p q r
    → near_span s ≡ Ok t → Holds t r 1
near_holds s t p q r wide scale pos h may e =
    let bounds = shorten_bounds end_digits s wide in
    let fit : (shorten end_digits s).scale ≤ 1000 = omega (arith, bounds.most) in
    let small : power_error ≤ 32 = omega arith in
    around_holds power_error (shorten end_digits s) t p q r small bounds.ordered bounds.high fit pos
    (shorten_holds end_digits s p q h) may e

-- what the machine may answer to a root is in the root
pub root_holds : (s t : Span) (x r : ℕ) → IsShort s → Holds s x 1 → IsNearRoot power_error x r
    → near_span (root_span s) ≡ Ok t → Holds t r 1
unfolding root_span
root_holds s t x r short h near e =
    let wide = root_wide s short in
    let least : s.low ≤ 2 ^ 40 = omega (arith, short.ordered, short.high) in
    let fits : raised s.low s < 2 ^ (64 + 64) = (let f = raised_fits s.low s least in omega arith) in
    let down = root_is 64 (raised s.low s) fits in
    let up = root_above_is (raised s.high s) (raised_fits s.high s short.high) in
    let powers = root_powers s.scale in
    let half = 2 ^ (s.scale / 2 + 86) in
    let low = low_square (root 64 (raised s.low s)) s.low (2 ^ more_digits s) half (2 ^ s.scale) (2 ^ unit_bits) x powers
    down.below (omega (arith, h.above)) in
    let high = high_square (root_above 64 (raised s.high s)) s.high (2 ^ more_digits s) half (2 ^ s.scale)
    (2 ^ unit_bits) x powers up (omega (arith, h.below)) in
    let found = between power_error (root 64 (raised s.low s) * half) (root_above 64 (raised s.high s) * half) r
    (x * 2 ^ unit_bits) low high near.above near.below in
    let one : 0 < 1 = omega arith in
    let held : Holds (root_span s) found.middle 1 = record {
      above = omega (arith, found.least);
      below = omega (arith, found.most);
    } in
    near_holds (root_span s) t found.middle 1 r wide.0 wide.1 one held (inl found.near) e
