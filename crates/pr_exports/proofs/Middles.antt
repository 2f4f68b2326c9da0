-- The middle of lengths, found between two numbers.
use Rattle.std.proofs.Common.{◌≡◌, ℕ, ◌+◌, ◌<◌, ◌≤◌, List, [], ◌∷◌, length, refl, sym, ◌∙◌, Bool, true, false, arith}
use Rattle.std.specs.Prelude.{max, nat_le}
use Rattle.pr_decode.specs.Readings.{greatest}
use Rattle.std.proofs.lemmas.Grind.{common_steps}
use Rattle.pr_report.specs.ReadingLaws.{MiddlesAreLeast}
use Rattle.pr_report.specs.Summary.{at_most, is_half, middle}

-- of no lengths it is 0
middle_none : middle [] ≡ 0
unfolding middle
middle_none = refl

-- below it each number is exceeded by more
found_at : (ns : List ℕ) (low mid : ℕ) → ((k : ℕ) → k < low → is_half ns k ≡ false) → is_half ns low ≡ true
    → is_half ns mid ≡ true → ((k : ℕ) → is_half ns k ≡ true → mid ≤ k) → low ≡ mid
found_at ns low mid below half is least =
    let above : mid < low → ⊥ = λ h. absurd (let e : false ≡ true = sym (below mid h) ∙ is in cc) in
    let most : mid ≤ low = least low half in
    grind (arith, common_steps, above, most)

found_none : (low : ℕ) → ((k : ℕ) → k < low → is_half [] k ≡ false) → low ≡ 0
found_none low below =
    let above : 0 < low → ⊥ = λ h. absurd (let e : true ≡ false = below 0 h in cc) in
    grind (arith, common_steps, above)

pub middle_found : (ns : List ℕ) (low : ℕ) → MiddlesAreLeast → ((k : ℕ) → k < low → is_half ns k ≡ false) → is_half ns low ≡ true → low ≡ middle ns
middle_found [] low law below half = found_none low below ∙ sym middle_none
middle_found (n ∷ ns) low law below half = found_at (n ∷ ns) low (middle (n ∷ ns)) below half (law n ns).0 (law n ns).1

-- the greatest of lengths is exceeded by none
none_above : (acc : ℕ) (ns : List ℕ) (g : ℕ) → greatest acc ns ≤ g → (acc ≤ g) × (at_most g ns ≡ length ns)
none_above acc [] g h = (h, refl)
none_above acc (m ∷ ms) g h =
    let r = none_above (max acc m) ms g h in
    let here : nat_le m g ≡ true = grind (arith, common_steps, r.0) in
    (grind (arith, common_steps, r.0), grind (arith, common_steps, here, r.1))

pub greatest_is_half : (ns : List ℕ) → is_half ns (greatest 0 ns) ≡ true
greatest_is_half ns =
    let all : at_most (greatest 0 ns) ns ≡ length ns = (none_above 0 ns (greatest 0 ns) (omega arith)).1 in
    grind (arith, common_steps, all)

-- more lengths do not exceed a greater number
at_most_grows : (k m : ℕ) (ns : List ℕ) → k ≤ m → at_most k ns ≤ at_most m ns
at_most_grows k m [] h = omega arith
at_most_grows k m (n ∷ ns) h = let rest = at_most_grows k m ns h in grind (arith, common_steps, h, rest)

half_grows : (ns : List ℕ) (k m : ℕ) → k ≤ m → is_half ns k ≡ true → is_half ns m ≡ true
half_grows ns k m h is = let most = at_most_grows k m ns h in grind (arith, common_steps, most, is)

-- where a number is exceeded by more, each one below it is
pub below_more : (ns : List ℕ) (between : ℕ) → is_half ns between ≡ false → (k : ℕ) → k < between + 1 → is_half ns k ≡ false
below_more ns between exceeded k h = by (is_half ns k) refl
  where
    by : (v : Bool) → is_half ns k ≡ v → is_half ns k ≡ false
    by true e = absurd (let is : is_half ns between ≡ true = half_grows ns k between (omega (arith, h)) e in cc)
    by false e = e
