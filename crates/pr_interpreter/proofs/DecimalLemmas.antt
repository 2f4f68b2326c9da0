use Rattle.std.proofs.Common.{◌≡◌, ℕ, ◌+◌, ◌-◌, ◌*◌, ◌/◌, ◌^◌, ◌<◌, ◌≤◌, min, arith, sym, subst, ap, ◌∙◌, inl, inr}
use Rattle.std.proofs.lemmas.Bool.{cases_lt}
use Rattle.std.proofs.lemmas.Nat.{pow_pos, pow-add, mul-pow, le-div}
use Rattle.std.proofs.Math.Nat.{mul-div-mul_right, div-eq_of_lt, div-div-eq-div-mul, mul-pos, mul-le-mul, one-le-pow}
use Rattle.std.proofs.Math.Nat.{pow-le-pow_right}
use Rattle.pr_interpreter.specs.Decimals.{HasDigits, IsFirst, sixteenths, ten_digits, next_place}
use Rattle.pr_interpreter.specs.declared.decimals.Digits.{Digits}
use Rattle.pr_interpreter.proofs.BitLemmas.{pow_order}
use Rattle.pr_interpreter.proofs.WholeLemmas.{floor_down, shift_capped}

-- ---- how the code counts sixteenths

pub five_pos : (k : ℕ) → 0 < 5 ^ k
five_pos k = let some : 0 < 5 = omega arith in omega (arith, one-le-pow k 5 some)

pub five_order : (i j : ℕ) → i ≤ j → 5 ^ i ≤ 5 ^ j
five_order i j h = let some : 0 < 5 = omega arith in pow-le-pow_right some h

pub five_fits : (k : ℕ) → k ≤ 37 → 5 ^ k ≤ 5 ^ 37
five_fits k h = five_order k 37 h

pub lifted_large : (n k : ℕ) → 0 < n → 127 < k → 2 ^ 128 ≤ n * 2 ^ k
lifted_large n k some h =
    let one : 1 ≤ n = omega arith in
    let order = pow_order 128 k h in
    let product = mul-le-mul one order in
    omega arith

pub shifted_down : (n up down : ℕ) → n ≤ 2 ^ 126 → up ≤ down → n / 2 ^ min (down - up) 127 ≡ n * 2 ^ up / 2 ^ down
shifted_down n up down small h =
    let below : n < 2 ^ 127 = omega arith in
    shift_capped n (down - up) below ∙ floor_down n up down h

pub shifted_nothing : (n up down : ℕ) → n ≡ 0 → 0 ≡ n * 2 ^ up / 2 ^ down
shifted_nothing n up down e =
    let none : n * 2 ^ up ≡ 0 = omega (arith, ap (λ (t : ℕ). t * 2 ^ up) e) in
    let below : n * 2 ^ up < 2 ^ down = omega (arith, pow_pos down) in
    sym (div-eq_of_lt below)

pub product_fits : (end f : ℕ) → end ≤ 2 ^ 40 → f ≤ 5 ^ 37 → end * f ≤ 2 ^ 126
product_fits end f h within = let product = mul-le-mul h within in omega arith

-- quotients whose cross products are equal
pub same_quotient : (a m b n : ℕ) → 0 < m → 0 < n → a * n ≡ b * m → a / m ≡ b / n
same_quotient a m b n first second e =
    let left = mul-div-mul_right {m = n} a m second in
    let right = mul-div-mul_right {m = m} b n first in
    let order : m * n ≡ n * m = omega arith in
    sym left ∙ ap (λ (t : ℕ). t / (m * n)) e ∙ ap (λ (t : ℕ). b * m / t) order ∙ right

pub fives : (p : ℕ) → 5 ^ (p - 37) * 5 ^ 37 ≡ 5 ^ (37 - p) * 5 ^ p
fives p =
    let e : p - 37 + 37 ≡ 37 - p + p = omega arith in
    sym (pow-add 5 (p - 37) 37) ∙ ap (λ (k : ℕ). 5 ^ k) e ∙ pow-add 5 (37 - p) p

pub crossed : (end s u d p f b : ℕ) → d * 5 ^ 37 ≡ u * f
    → end * u * (s * 2 ^ 41) * (p * f * b) ≡ end * s * 16 * 10 ^ 37 * (p * b * d)
crossed end s u d p f b e =
    let scaled = ap (λ (t : ℕ). end * s * p * b * t) e in
    omega arith

pub tens_split : (k : ℕ) → 10 ^ k ≡ 2 ^ k * 5 ^ k
tens_split k = mul-pow 2 5 k

pub sixteenths_found : (end scale place : ℕ)
    → end * 5 ^ (37 - place) * 2 ^ (scale + 41) / 2 ^ (place + 256) / 5 ^ (place - 37) ≡ sixteenths place
    (end * 2 ^ scale)
unfolding sixteenths
sixteenths_found end scale place =
    let up = pow-add 2 scale 41 in
    let down = pow-add 2 place 256 in
    let ten = tens_split place in
    let lower = mul-pos (pow_pos (place + 256)) (five_pos (place - 37)) in
    let tens : 0 < 10 ^ place = (let some : 0 < 10 = omega arith in omega (arith, one-le-pow place 10 some)) in
    let unit = mul-pos tens (pow_pos 256) in
    let first : end * 5 ^ (37 - place) * 2 ^ (scale + 41) * (10 ^ place * 2 ^ 256) ≡ end * 2 ^ scale * 16 * 10 ^ 37
    * (2 ^ (place + 256) * 5 ^ (place - 37))
    = rw (up, down, ten) (crossed end (2 ^ scale) (5 ^ (37 - place)) (5 ^ (place - 37)) (2 ^ place) (5 ^ place)
    (2 ^ 256) (fives place)) in
    div-div-eq-div-mul (end * 5 ^ (37 - place) * 2 ^ (scale + 41)) (2 ^ (place + 256)) (5 ^ (place - 37))
    ∙ same_quotient (end * 5 ^ (37 - place) * 2 ^ (scale + 41)) (2 ^ (place + 256) * 5 ^ (place - 37))
    (end * 2 ^ scale * 16 * 10 ^ 37) (10 ^ place * 2 ^ 256) lower unit first

pub sixteenths_large : (n place : ℕ) → 2 ^ 128 ≤ n → place ≤ 67 → ten_digits ≤ n / 5 ^ (place - 37)
sixteenths_large n place large h =
    let few : place - 37 ≤ 30 = omega arith in
    let order = five_order (place - 37) 30 few in
    let ten : ten_digits ≤ 2 ^ 34 = omega arith in
    let product = mul-le-mul ten order in
    let whole : ten_digits * 5 ^ (place - 37) ≤ n = omega arith in
    le-div ten_digits n (5 ^ (place - 37)) (five_pos (place - 37)) whole

-- ---- one magnitude has one row of digits

pub one_place : (units : ℕ) (d e : Digits) → HasDigits units d → HasDigits units e → d.place ≡ e.place
one_place units d e h g =
    elim (cases_lt d.place e.place) [
      | inl less ↦ absurd (let f = g.finest d.place less in omega (arith, h.nine))
      | inr more ↦ elim (cases_lt e.place d.place) [
        | inl less ↦ absurd (let f = h.finest e.place less in omega (arith, g.nine))
        | inr same ↦ omega arith
      ]
    ]

pub one_number : (units : ℕ) (d e : Digits) → HasDigits units d → HasDigits units e → d.digits ≡ e.digits
one_number units d e h g =
    let same = ap (λ (p : ℕ). (sixteenths p units + 8) / 16) (one_place units d e h g) in
    h.rounded ∙ same ∙ sym g.rounded

-- ---- what the first place gives

pub digits_are : (units : ℕ) (d : Digits) (count : ℕ) → IsFirst units d.place count → count < next_place
    → d.digits ≡ (count + 8) / 16
    → HasDigits units d
digits_are units d count h below e =
    let same = h.found in
    record {
      rounded = e ∙ ap (λ (n : ℕ). (n + 8) / 16) h.found;
      nine = subst (λ (n : ℕ). n < next_place) h.found below;
      finest = h.finest;
      within = h.within;
    }

-- without a place there are no digits
pub none_without_place : (units : ℕ) → ((p : ℕ) → p < 68 → ten_digits ≤ sixteenths p units) → (d : Digits)
    → HasDigits units d → ⊥
none_without_place units none d h =
    let within : d.place < 68 = omega (arith, h.within) in
    let large = none d.place within in
    omega (arith, h.nine)

-- the first place is that of the digits
pub none_between : (units place count : ℕ) → IsFirst units place count → next_place ≤ count → (d : Digits)
    → HasDigits units d → ⊥
none_between units place count f large d h =
    elim (cases_lt d.place place) [
      | inl less ↦ let ten = f.finest d.place less in omega (arith, h.nine)
      | inr more ↦ elim (cases_lt place d.place) [
        | inl less ↦ let ten = h.finest place less in omega (arith, ten, f.found, f.below)
        | inr same ↦
            let e : d.place ≡ place = omega arith in
            let nine = subst (λ (p : ℕ). sixteenths p units < next_place) e h.nine in
            omega (arith, f.found)
      ]
    ]
