use Rattle.std.proofs.Common.{◌≡◌, ℕ, ◌+◌, ◌*◌, ◌^◌, ◌<◌, ◌≤◌, ◌⊎◌, ℤ, pos, negsuc, Bool, true, false, not, arith, sym}
use Rattle.std.proofs.Common.{subst, refl, ap, inl, inr, unsigned_abs}
use Rattle.std.proofs.lemmas.Int.{ints}
use Rattle.std.proofs.lemmas.Bool.{cases_eq}
use Rattle.std.proofs.lemmas.Nat.{pow_pos}
use Rattle.std.proofs.Math.Nat.{mul-pos}
use Rattle.pr_interpreter.specs.Machine.{MayAnswer, SignedAs, is_negative, differ}
use Rattle.pr_interpreter.specs.Numbers.{HasSign, flip, times}
use Rattle.pr_interpreter.specs.declared.number.Sign.{Sign}
use Rattle.pr_interpreter.specs.declared.number.Sign.TheVariants.{Plus, Minus, Either}

-- a sign says whether a value that is not 0 is negative
abbrev pub Shows : Sign → Bool → Type 0
Shows Plus b = b ≡ false
Shows Minus b = b ≡ true
Shows Either b = Unit {0}

-- 0 has every sign
pub zero_has : (s : Sign) (r : ℤ) → unsigned_abs r ≡ 0 → HasSign s r
zero_has Plus r e = omega (arith, ints)
zero_has Minus r e = omega (arith, ints)
zero_has Either r e = tt

pub sign_cases : (s : Sign) (z : ℤ) → HasSign s z → (unsigned_abs z ≡ 0) ⊎ Shows s (is_negative z)
sign_cases Plus (pos n) h = inr refl
sign_cases Plus (negsuc n) h = absurd (omega (arith, ints))
sign_cases Minus (pos n) h = inl (omega (arith, ints))
sign_cases Minus (negsuc n) h = inr refl
sign_cases Either z h = inr tt

pub signed_has : (s : Sign) (b : Bool) (r : ℤ) → Shows s b → SignedAs b r → HasSign s r
signed_has Plus b r e h = subst (λ (c : Bool). SignedAs c r) e h
signed_has Minus b r e h = subst (λ (c : Bool). SignedAs c r) e h
signed_has Either b r e h = tt

pub flip_shows : (s : Sign) (b : Bool) → Shows s b → Shows (flip s) (not b)
flip_shows Plus b e = ap not e
flip_shows Minus b e = ap not e
flip_shows Either b e = tt

pub times_shows : (s t : Sign) (a b : Bool) → Shows s a → Shows t b → Shows (times s t) (differ a b)
times_shows Plus t a b e f = subst (λ (c : Bool). Shows t (differ c b)) (sym e) f
times_shows Minus t a b e f = subst (λ (c : Bool). Shows (flip t) (differ c b)) (sym e) (flip_shows t b f)
times_shows Either t a b e f = tt

-- the sign of what is answered to a product
pub product_sign : (s t : Sign) (x y r : ℤ) → HasSign s x → HasSign t y
    → SignedAs (differ (is_negative x) (is_negative y)) r
    → (unsigned_abs x ≡ 0 → unsigned_abs r ≡ 0) → (unsigned_abs y ≡ 0 → unsigned_abs r ≡ 0) → HasSign (times s t) r
product_sign s t x y r first second h first_zero second_zero =
    elim (sign_cases s x first) [
      | inl none ↦ zero_has (times s t) r (first_zero none)
      | inr shows ↦ elim (sign_cases t y second) [
        | inl none ↦ zero_has (times s t) r (second_zero none)
        | inr shown ↦ signed_has (times s t) (differ (is_negative x) (is_negative y)) r
            (times_shows s t (is_negative x) (is_negative y) shows shown) h
      ]
    ]

-- a product that is at most 0
pub none_of : (r k : ℕ) → 0 < k → r * k ≤ 0 → r ≡ 0
none_of r k positive h = elim (cases_eq r 0) [
  | inl none ↦ none
  | inr some ↦ let least : 0 < r = omega arith in let product = mul-pos least positive in absurd (omega arith)
]

-- the machine answers 0 to 0
pub answer_zero : (digits error p q r : ℕ) → 0 < q → p ≡ 0 → MayAnswer digits error p q r → r ≡ 0
answer_zero digits error p q r positive none may =
    elim may [
      | inl itself ↦ none_of r q positive (omega (arith, itself.1))
      | inr other ↦ elim other [
        | inl tiny ↦ tiny.1
        | inr near ↦
            let unit = mul-pos positive (pow_pos error) in
            let e : p * (2 ^ error + 1) ≡ 0 = rw none (omega arith) in
            none_of r (q * 2 ^ error) unit (omega (arith, near.1.below))
      ]
    ]
