use Rattle.std.proofs.Common.{◌≡◌, ℕ, ◌+◌, ◌-◌, ◌*◌, ◌^◌, ◌<◌, ◌≤◌, ℤ, pos, ◌+ℤ◌, ◌≤ℤ◌, Bool, true, false, nat_le}
use Rattle.std.proofs.Common.{nat_lt, max, min, if◌then◌else◌, arith, sym, subst, refl, ap, ◌∙◌, inl, inr, unsigned_abs}
use Rattle.std.proofs.Common.{Ok}
use Rattle.std.proofs.lemmas.Bool.{leb-true, ltb-true, ltb-false}
use Rattle.std.proofs.lemmas.Int.{ints}
use Rattle.std.proofs.lemmas.Nat.{pow-add}
use Rattle.std.proofs.Math.Nat.{mul-le-mul, mul-le-mul_right, mul-sub}
use Rattle.pr_interpreter.specs.Machine.{is_negative, SignedAs}
use Rattle.pr_interpreter.specs.Spans.{IsAligned, IsShort, IsWide, Holds, answer}
use Rattle.pr_interpreter.specs.Numbers.{Known, Encloses, HasSign, is_zero, settled, lowered, aligned, together, apart}
use Rattle.pr_interpreter.specs.Numbers.{beside, sum_span, larger_sign, sum_sign, exact_sum, sum, signed}
use Rattle.pr_interpreter.specs.NumberLaws.{SumsAreCertain}
use Rattle.pr_interpreter.specs.declared.span.Span.{Span}
use Rattle.pr_interpreter.specs.declared.number.Sign.{Sign}
use Rattle.pr_interpreter.specs.declared.number.Sign.TheVariants.{Plus, Minus, Either}
use Rattle.pr_interpreter.proofs.BitLemmas.{pow_order}
use Rattle.pr_interpreter.proofs.SignLemmas.{zero_has, sign_cases, signed_has, answer_zero}
use Rattle.pr_interpreter.proofs.NumberLemmas.{known_branch, same_known, signed_encloses, none_in}

-- ---- spans at one scale

pub settled_cases : (top : ℕ) (s : Span) (P : Span → Type 0)
    → (s.scale + 85 < top → P (record { low = 0; high = 1; scale = top - 40 })) → (top ≤ s.scale + 85 → P s)
    → P (settled top s)
settled_cases top s P far near =
    go (nat_lt (s.scale + 85) top)
    (λ (e : nat_lt (s.scale + 85) top ≡ true). far (ltb-true (s.scale + 85) top e))
    (λ (e : nat_lt (s.scale + 85) top ≡ false). near (ltb-false (s.scale + 85) top e))
  where
    go : (b : Bool) → (b ≡ true → P (record { low = 0; high = 1; scale = top - 40 })) → (b ≡ false → P s)
        → P (if b then record { low = 0; high = 1; scale = top - 40 } else s)
    go true h k = h refl
    go false h k = k refl

-- a span far below is below one unit of the scale
pub far_below : (high scale top x : ℕ) → high ≤ 2 ^ 40 → scale + 85 < top → x ≤ high * 2 ^ scale * 1
    → x ≤ 1 * 2 ^ (top - 40) * 1
far_below high scale top x short far below =
    let product = mul-le-mul_right {m = high} {n = 2 ^ 40} (2 ^ scale) short in
    let order : 40 + scale ≤ top - 40 = omega arith in
    let ordered = pow_order (40 + scale) (top - 40) order in
    omega (arith, pow-add 2 40 scale)

pub settled_holds : (top : ℕ) (s : Span) (x : ℕ) → IsShort s → Holds s x 1 → Holds (settled top s) x 1
settled_holds top s x short h =
    settled_cases top s (λ (t : Span). Holds t x 1)
    (λ (far : s.scale + 85 < top). record {
      above = omega arith;
      below = far_below s.high s.scale top x short.high far
          h.below;
    })
    (λ (near : top ≤ s.scale + 85). h)

pub settled_short : (top : ℕ) (s : Span) → IsShort s → top ≤ 383 → IsShort (settled top s)
settled_short top s short within =
    settled_cases top s (λ (t : Span). IsShort t)
    (λ (far : s.scale + 85 < top). record { ordered = omega arith; high = omega arith; scale = omega arith })
    (λ (near : top ≤ s.scale + 85). short)

-- both scales are near each other
pub settled_near : (x y : Span) → (settled y.scale x).scale ≤ (settled x.scale y).scale + 85
settled_near x y =
    settled_cases y.scale x (λ (t : Span). t.scale ≤ (settled x.scale y).scale + 85)
    (λ (far : x.scale + 85 < y.scale). settled_cases x.scale y (λ (u : Span). y.scale - 40 ≤ u.scale + 85)
    (λ (above : y.scale + 85 < x.scale). omega arith) (λ (level : x.scale ≤ y.scale + 85). omega arith))
    (λ (near : y.scale ≤ x.scale + 85). settled_cases x.scale y (λ (u : Span). x.scale ≤ u.scale + 85)
    (λ (above : y.scale + 85 < x.scale). omega arith) (λ (level : x.scale ≤ y.scale + 85). omega arith))

pub lowered_holds : (base : ℕ) (s : Span) (x : ℕ) → base ≤ s.scale → Holds s x 1 → Holds (lowered base s) x 1
lowered_holds base s x within h =
    let e : s.scale - base + base ≡ s.scale = omega arith in
    let parts = sym (pow-add 2 (s.scale - base) base) ∙ ap (λ (n : ℕ). 2 ^ n) e in
    let low = ap (λ (t : ℕ). s.low * t) parts in
    let high = ap (λ (t : ℕ). s.high * t) parts in
    record { above = omega (arith, h.above); below = omega (arith, h.below) }

pub aligned_holds : (x y : Span) (m : ℕ) → IsShort x → Holds x m 1 → Holds (aligned x y) m 1
unfolding aligned
aligned_holds x y m short h =
    lowered_holds (min (settled y.scale x).scale (settled x.scale y).scale) (settled y.scale x) m (omega arith)
    (settled_holds y.scale x m short h)

pub lowered_fits : (end count : ℕ) → end ≤ 2 ^ 40 → count ≤ 85 → end * 2 ^ count ≤ 2 ^ 125
lowered_fits end count h within =
    let ordered = pow_order count 85 within in
    let product = mul-le-mul h ordered in
    omega arith

pub aligned_fits : (x y : Span) → IsShort x → IsShort y → IsAligned (aligned x y)
unfolding aligned
aligned_fits x y first second =
    let s = settled y.scale x in
    let t = settled x.scale y in
    let short : IsShort (settled y.scale x) = settled_short y.scale x first second.scale in
    let other : IsShort (settled x.scale y) = settled_short x.scale y second first.scale in
    let near = settled_near x y in
    let base = min (settled y.scale x).scale (settled x.scale y).scale in
    let few : (settled y.scale x).scale - base ≤ 85 = omega arith in
    record {
      ordered = mul-le-mul_right (2 ^ ((settled y.scale x).scale - base)) short.ordered;
      high = lowered_fits (settled y.scale x).high ((settled y.scale x).scale - base) short.high few;
      scale = omega (arith, short.scale);
    }

pub aligned_scale : (x y : Span) → (aligned x y).scale ≡ (aligned y x).scale
unfolding aligned
aligned_scale x y = omega arith

-- ---- sums of values

pub sum_most : (x y : ℤ) → unsigned_abs (x +ℤ y) ≤ unsigned_abs x + unsigned_abs y
sum_most x y = omega (arith, ints)

pub sum_least : (x y : ℤ) → unsigned_abs x - unsigned_abs y ≤ unsigned_abs (x +ℤ y)
sum_least x y = omega (arith, ints)

pub sum_least_turned : (x y : ℤ) → unsigned_abs y - unsigned_abs x ≤ unsigned_abs (x +ℤ y)
sum_least_turned x y = omega (arith, ints)

pub sum_plus : (x y : ℤ) → pos 0 ≤ℤ x → pos 0 ≤ℤ y → unsigned_abs (x +ℤ y) ≡ unsigned_abs x + unsigned_abs y
sum_plus x y h k = omega (arith, ints)

pub sum_minus : (x y : ℤ) → x ≤ℤ pos 0 → y ≤ℤ pos 0 → unsigned_abs (x +ℤ y) ≡ unsigned_abs x + unsigned_abs y
sum_minus x y h k = omega (arith, ints)

pub sum_plus_minus : (x y : ℤ) → pos 0 ≤ℤ x → y ≤ℤ pos 0
    → unsigned_abs (x +ℤ y) ≡ unsigned_abs x - unsigned_abs y + (unsigned_abs y - unsigned_abs x)
sum_plus_minus x y h k = omega (arith, ints)

pub sum_minus_plus : (x y : ℤ) → x ≤ℤ pos 0 → pos 0 ≤ℤ y
    → unsigned_abs (x +ℤ y) ≡ unsigned_abs x - unsigned_abs y + (unsigned_abs y - unsigned_abs x)
sum_minus_plus x y h k = omega (arith, ints)

-- the larger decides the sign
pub first_decides : (s : Sign) (x y : ℤ) → HasSign s x → unsigned_abs y ≤ unsigned_abs x → HasSign s (x +ℤ y)
first_decides Plus x y h k = omega (arith, ints)
first_decides Minus x y h k = omega (arith, ints)
first_decides Either x y h k = tt

pub second_decides : (t : Sign) (x y : ℤ) → HasSign t y → unsigned_abs x ≤ unsigned_abs y → HasSign t (x +ℤ y)
second_decides Plus x y h k = omega (arith, ints)
second_decides Minus x y h k = omega (arith, ints)
second_decides Either x y h k = tt

-- ---- magnitudes of sums

pub less_below : (a b u m n : ℕ) → a * u ≤ m → n ≤ b * u → (a - b) * u ≤ m - n
less_below a b u m n h k = omega (arith, mul-sub u a b)

pub less_above : (a b u m n : ℕ) → m ≤ a * u → b * u ≤ n → m - n ≤ (a - b) * u
less_above a b u m n h k = omega (arith, mul-sub u a b)

pub together_holds : (x y : Span) (m n k : ℕ) → x.scale ≡ y.scale → Holds x m 1 → Holds y n 1 → k ≡ m + n
    → Holds (together x y) k 1
together_holds x y m n k e first second sum =
    let low = subst (λ (t : ℕ). y.low * 2 ^ t * 1 ≤ n) (sym e) second.above in
    let high = subst (λ (t : ℕ). n ≤ y.high * 2 ^ t * 1) (sym e) second.below in
    record { above = omega (arith, first.above); below = omega (arith, first.below) }

pub apart_holds : (x y : Span) (m n k : ℕ) → x.scale ≡ y.scale → Holds x m 1 → Holds y n 1 → k ≡ m - n + (n - m)
    → Holds (apart x y) k 1
apart_holds x y m n k e first second sum =
    let u = 2 ^ x.scale in
    let low = subst (λ (t : ℕ). y.low * 2 ^ t * 1 ≤ n) (sym e) second.above in
    let high = subst (λ (t : ℕ). n ≤ y.high * 2 ^ t * 1) (sym e) second.below in
    let a : x.low * u ≤ m = omega (arith, first.above) in
    let b : m ≤ x.high * u = omega (arith, first.below) in
    let c : y.low * u ≤ n = omega arith in
    let d : n ≤ y.high * u = omega arith in
    let left = less_below x.low y.high u m n a d in
    let right = less_below y.low x.high u n m c b in
    let over = less_above x.high y.low u m n b c in
    let above = less_above y.high x.low u n m d a in
    let most : x.high - y.low ≤ max (x.high - y.low) (y.high - x.low) = omega arith in
    let more : y.high - x.low ≤ max (x.high - y.low) (y.high - x.low) = omega arith in
    let first_most = mul-le-mul_right u most in
    let second_most = mul-le-mul_right u more in
    record { above = omega arith; below = omega arith }

pub beside_holds : (x y : Span) (m n k : ℕ) → x.scale ≡ y.scale → Holds x m 1 → Holds y n 1 → n - m ≤ k → k ≤ m + n
    → Holds (beside x y) k 1
beside_holds x y m n k e first second least most =
    let u = 2 ^ x.scale in
    let low = subst (λ (t : ℕ). y.low * 2 ^ t * 1 ≤ n) (sym e) second.above in
    let high = subst (λ (t : ℕ). n ≤ y.high * 2 ^ t * 1) (sym e) second.below in
    let b : m ≤ x.high * u = omega (arith, first.below) in
    let c : y.low * u ≤ n = omega arith in
    let right = less_below y.low x.high u n m c b in
    record { above = omega arith; below = omega (arith, first.below) }

-- the second is of a sign that is not known
pub beside_turned : (x y : Span) (a b : ℤ) → x.scale ≡ y.scale → Holds x (unsigned_abs a) 1 → Holds y (unsigned_abs b) 1
    → Holds (beside y x) (unsigned_abs (a +ℤ b)) 1
beside_turned x y a b e first second =
    let most = sum_most a b in
    let turned : unsigned_abs (a +ℤ b) ≤ unsigned_abs b + unsigned_abs a = omega arith in
    beside_holds y x (unsigned_abs b) (unsigned_abs a) (unsigned_abs (a +ℤ b)) (sym e) second first (sum_least a b)
    turned

-- ---- sums of numbers

pub sum_holds : (s t : Sign) (a b : ℤ) (x y : Span) → x.scale ≡ y.scale → HasSign s a → HasSign t b
    → Holds x (unsigned_abs a) 1 → Holds y (unsigned_abs b) 1 → Holds (sum_span s t x y) (unsigned_abs (a +ℤ b)) 1
sum_holds Plus Plus a b x y e h k first second = together_holds x y (unsigned_abs a) (unsigned_abs b)
    (unsigned_abs (a +ℤ b)) e first second (sum_plus a b h k)
sum_holds Plus Minus a b x y e h k first second = apart_holds x y (unsigned_abs a) (unsigned_abs b)
    (unsigned_abs (a +ℤ b)) e first second (sum_plus_minus a b h k)
sum_holds Plus Either a b x y e h k first second = beside_turned x y a b e first second
sum_holds Minus Plus a b x y e h k first second = apart_holds x y (unsigned_abs a) (unsigned_abs b)
    (unsigned_abs (a +ℤ b)) e first second (sum_minus_plus a b h k)
sum_holds Minus Minus a b x y e h k first second = together_holds x y (unsigned_abs a) (unsigned_abs b)
    (unsigned_abs (a +ℤ b)) e first second (sum_minus a b h k)
sum_holds Minus Either a b x y e h k first second = beside_turned x y a b e first second
sum_holds Either t a b x y e h k first second =
    beside_holds x y (unsigned_abs a) (unsigned_abs b) (unsigned_abs (a +ℤ b)) e first second (sum_least_turned a b)
    (sum_most a b)

-- which end is larger
pub ends_order : (x y : Span) (m n : ℕ) → x.scale ≡ y.scale → y.high ≤ x.low → Holds x m 1 → Holds y n 1 → n ≤ m
ends_order x y m n e h first second =
    let high = subst (λ (t : ℕ). n ≤ y.high * 2 ^ t * 1) (sym e) second.below in
    let order = mul-le-mul_right (2 ^ x.scale) h in
    omega (arith, first.above)

pub sign_choice : (a b : Bool) (s t : Sign) (z : ℤ) → (a ≡ true → HasSign s z) → (b ≡ true → HasSign t z)
    → HasSign (if a then s else if b then t else Either) z
sign_choice true b s t z h k = h refl
sign_choice false true s t z h k = k refl
sign_choice false false s t z h k = tt

pub larger_has : (s t : Sign) (a b : ℤ) (x y : Span) → x.scale ≡ y.scale → HasSign s a → HasSign t b
    → Holds x (unsigned_abs a) 1 → Holds y (unsigned_abs b) 1 → HasSign (larger_sign s t x y) (a +ℤ b)
larger_has s t a b x y e h k first second =
    sign_choice (nat_le y.high x.low) (nat_le x.high y.low) s t (a +ℤ b)
    (λ (p : nat_le y.high x.low ≡ true). first_decides s a b h
    (ends_order x y (unsigned_abs a) (unsigned_abs b) e (leb-true y.high x.low p) first second))
    (λ (p : nat_le x.high y.low ≡ true). second_decides t a b k
    (ends_order y x (unsigned_abs b) (unsigned_abs a) (sym e) (leb-true x.high y.low p) second first))

pub sum_sign_has : (s t : Sign) (a b : ℤ) (x y : Span) → x.scale ≡ y.scale → HasSign s a → HasSign t b
    → Holds x (unsigned_abs a) 1 → Holds y (unsigned_abs b) 1 → HasSign (sum_sign s t x y) (a +ℤ b)
sum_sign_has Plus Plus a b x y e h k first second = omega (arith, ints)
sum_sign_has Plus Minus a b x y e h k first second = larger_has Plus Minus a b x y e h k first second
sum_sign_has Plus Either a b x y e h k first second = larger_has Plus Either a b x y e h k first second
sum_sign_has Minus Plus a b x y e h k first second = larger_has Minus Plus a b x y e h k first second
sum_sign_has Minus Minus a b x y e h k first second = omega (arith, ints)
sum_sign_has Minus Either a b x y e h k first second = larger_has Minus Either a b x y e h k first second
sum_sign_has Either t a b x y e h k first second = larger_has Either t a b x y e h k first second

pub exact_sum_encloses : (a b : Known) (x y : ℤ) → IsShort a.span → IsShort b.span → Encloses a x → Encloses b y
    → Encloses (exact_sum a b) (x +ℤ y)
exact_sum_encloses a b x y first second in_a in_b =
    let scale = aligned_scale a.span b.span in
    let left = aligned_holds a.span b.span (unsigned_abs x) first in_a.magnitude in
    let right = aligned_holds b.span a.span (unsigned_abs y) second in_b.magnitude in
    record {
      sign = sum_sign_has a.sign b.sign x y (aligned a.span b.span) (aligned b.span a.span) scale in_a.sign in_b.sign
          left right;
      magnitude = sum_holds a.sign b.sign x y (aligned a.span b.span) (aligned b.span a.span) scale in_a.sign in_b.sign
          left right;
    }

-- the ends of sums
pub together_wide : (x y : Span) → IsAligned x → IsAligned y → IsWide (together x y)
together_wide x y h k = record {
  ordered = omega (arith, h.ordered, k.ordered);
  high = omega (arith, h.high, k.high);
  scale = omega (arith, h.scale);
}

pub apart_wide : (x y : Span) → IsAligned x → IsAligned y → IsWide (apart x y)
apart_wide x y h k = record {
  ordered = omega (arith, h.ordered, k.ordered);
  high = omega (arith, h.high, k.high);
  scale = omega (arith, h.scale);
}

pub beside_wide : (x y : Span) → IsAligned x → IsAligned y → IsWide (beside x y)
beside_wide x y h k = record {
  ordered = omega (arith, h.ordered, k.ordered);
  high = omega (arith, h.high, k.high);
  scale = omega (arith, h.scale);
}

pub sum_wide : (s t : Sign) (x y : Span) → IsAligned x → IsAligned y → IsWide (sum_span s t x y)
sum_wide Plus Plus x y h k = together_wide x y h k
sum_wide Plus Minus x y h k = apart_wide x y h k
sum_wide Plus Either x y h k = beside_wide y x k h
sum_wide Minus Plus x y h k = apart_wide x y h k
sum_wide Minus Minus x y h k = together_wide x y h k
sum_wide Minus Either x y h k = beside_wide y x k h
sum_wide Either t x y h k = beside_wide x y h k

-- the scale of a sum is that of its spans
pub sum_scale : (s t : Sign) (x y : Span) → IsAligned x → IsAligned y → (sum_span s t x y).scale ≤ 383
sum_scale Plus Plus x y h k = h.scale
sum_scale Plus Minus x y h k = h.scale
sum_scale Plus Either x y h k = k.scale
sum_scale Minus Plus x y h k = h.scale
sum_scale Minus Minus x y h k = h.scale
sum_scale Minus Either x y h k = k.scale
sum_scale Either t x y h k = h.scale

-- a sum before it is rounded, by an equation
pub exact_sum_wide : (a b : Known) (t : Span) → IsShort a.span → IsShort b.span → t ≡ (exact_sum a b).span → IsWide t
    × (t.scale ≤ 383)
exact_sum_wide a b t first second e =
    let left = aligned_fits a.span b.span first second in
    let right = aligned_fits b.span a.span second first in
    rw e (
      sum_wide a.sign b.sign (aligned a.span b.span) (aligned b.span a.span) left right,
      sum_scale a.sign b.sign (aligned a.span b.span) (aligned b.span a.span) left right,
    )

-- the sign of what is answered, which is that of the exact result
pub rounded_sign : (s : Sign) (e r : ℤ) → HasSign s e → SignedAs (is_negative e) r
    → (unsigned_abs e ≡ 0 → unsigned_abs r ≡ 0) → HasSign s r
rounded_sign s e r h signed zero = elim (sign_cases s e h) [
  | inl none ↦ zero_has s r (zero none)
  | inr shows ↦ signed_has s (is_negative e) r shows signed
]

-- a value that is 0
pub size_none : (x : ℤ) → unsigned_abs x ≡ 0 → x ≡ pos 0
size_none x e = omega (arith, ints)

pub sums_are_certain : SumsAreCertain
unfolding sum
sums_are_certain a b n x y r first second in_a in_b may e =
    elim (known_branch (is_zero a) (Ok b) (if is_zero b then Ok a
    else signed (exact_sum a b).sign (answer 32 30 (exact_sum a b).span)) n e) [
      | inl zero ↦
          let same = may.first (size_none x (none_in a x in_a zero.0)) in
          subst (λ (m : Known). Encloses m r) (same_known b n zero.1) (subst (λ (z : ℤ). Encloses b z) (sym same) in_b)
      | inr more ↦ elim (known_branch (is_zero b) (Ok a) (signed (exact_sum a b).sign
          (answer 32 30 (exact_sum a b).span)) n more.1) [
            | inl zero ↦
                let same = may.second (size_none y (none_in b y in_b zero.0)) in
                subst (λ (m : Known). Encloses m r) (same_known a n zero.1)
                (subst (λ (z : ℤ). Encloses a z) (sym same) in_a)
            | inr found ↦
                let exact = exact_sum_encloses a b x y first second in_a in_b in
                let left = aligned_fits a.span b.span first second in
                let right = aligned_fits b.span a.span second first in
                let wide = sum_wide a.sign b.sign (aligned a.span b.span) (aligned b.span a.span) left right in
                let scale = sum_scale a.sign b.sign (aligned a.span b.span) (aligned b.span a.span) left right in
                let one : 0 < 1 = omega arith in
                let sign = rounded_sign (exact_sum a b).sign (x +ℤ y) r exact.sign may.sign (λ (none : unsigned_abs (x +ℤ y)
                ≡ 0). answer_zero 32 30 (unsigned_abs (x +ℤ y)) 1 (unsigned_abs r) one none may.size) in
                signed_encloses (exact_sum a b).sign 32 30 (exact_sum a b).span n (unsigned_abs (x +ℤ y)) 1 r
                wide (omega (arith, scale)) (omega arith) (omega arith) one exact.magnitude may.size sign found.1
          ]
    ]
