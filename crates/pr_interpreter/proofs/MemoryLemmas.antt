use Rattle.std.proofs.Common.{◌≡◌, ℕ, suc, ◌+◌, ◌*◌, ◌^◌, ◌<◌, ◌≤◌, ◌&&◌, false, nat_le, nat_lt, List, []}
use Rattle.std.proofs.Common.{◌∷◌, length, drop, get_or, Option, Some, None, arith, refl, ap, add-one, drop-cons}
use Rattle.std.proofs.Common.{inl, inr}
use Rattle.std.proofs.lemmas.Bool.{and_right, cases_Bool, le-leb, le-ltb, lt-leb, lt-ltb}
use Rattle.std.proofs.lemmas.List.{drop_all}
use Rattle.std.proofs.Math.Nat.{mul-le-mul, pow-le-pow_right}
use Rattle.pr_interpreter.specs.Memory.{element_bytes, place_of, undimensioned_bytes}
use Rattle.pr_interpreter.specs.declared.names.Kind.{Kind}
use Rattle.pr_interpreter.specs.declared.names.Kind.TheVariants.{Number as Numeric, Text as Letters, Whole}

-- ---- bytes of elements

some_bytes : (kind : Kind) → 2 ≤ element_bytes kind
some_bytes Numeric = omega arith
some_bytes Whole = omega arith
some_bytes Letters = omega arith

few_bytes : (kind : Kind) → element_bytes kind ≤ 5
few_bytes Numeric = omega arith
few_bytes Whole = omega arith
few_bytes Letters = omega arith

-- an array of five dimensions and more has no room
pub too_many : (kind : Kind) (count : ℕ) → 4 < count → 65535 < undimensioned_bytes kind count
too_many kind count large =
    let some : 0 < 11 = omega arith in
    let five : 5 ≤ count = omega arith in
    let power = pow-le-pow_right some five in
    let product = mul-le-mul (some_bytes kind) power in
    omega arith

pub few_elements : (count : ℕ) → count ≤ 4 → 11 ^ count ≤ 11 ^ 4
few_elements count few = let some : 0 < 11 = omega arith in pow-le-pow_right some few

pub bytes_fit : (kind : Kind) (n : ℕ) → n ≤ 65535 → element_bytes kind * n ≤ 5 * 65535
bytes_fit kind n few = mul-le-mul (few_bytes kind) few

-- ---- places of elements

-- the place after one more dimension fits
pub place_fits : (place bound : ℕ) → place < 65536 → bound < 65536 → place * (bound + 1) ≤ 65535 * 65536
place_fits place bound p b =
    let first : place ≤ 65535 = omega arith in
    let second : bound + 1 ≤ 65536 = omega arith in
    mul-le-mul first second

abbrev pub no_place : Option ℕ
no_place = None

-- there are more or fewer indices than dimensions
pub place_differs : (n : ℕ) (bs is : List ℕ) → (length bs ≡ length is → ⊥) → no_place ≡ place_of n bs is
place_differs n [] [] h = absurd (h refl)
place_differs n [] (i ∷ is) h = refl
place_differs n (b ∷ bs) [] h = refl
place_differs n (b ∷ bs) (i ∷ is) h =
    elim (cases_Bool (nat_le i b && nat_lt (n * (b + 1) + i) 65536)) [
      | inl within ↦ rw within (place_differs (n * (b + 1) + i) bs is (λ e. h (ap (λ (k : ℕ). suc k) e)))
      | inr outside ↦ rw outside refl
    ]

-- an index is too great
pub place_outside : (n : ℕ) (bs is : List ℕ) (k : ℕ) → k < length bs → k < length is → get_or bs k 0 < get_or is k 0
    → place_of n (drop k bs) (drop k is) ≡ None
place_outside n bs is k h g more = rw (drop-cons bs k 0 h, drop-cons is k 0 g, lt-leb _ _ more) refl

-- a place is too great
pub place_beyond : (n : ℕ) (bs is : List ℕ) (k : ℕ) → k < length bs → k < length is
    → 65536 ≤ n * (get_or bs k 0 + 1) + get_or is k 0 → place_of n (drop k bs) (drop k is) ≡ None
place_beyond n bs is k h g large =
    let large_test : nat_lt (n * (get_or bs k 0 + 1) + get_or is k 0) 65536 ≡ false = le-ltb _ _ large in
    let neither = and_right (nat_le (get_or is k 0) (get_or bs k 0)) _ large_test in
    rw (drop-cons bs k 0 h, drop-cons is k 0 g, neither) refl

-- one dimension more
pub place_goes : (n : ℕ) (bs is : List ℕ) (k : ℕ) → k < length bs → k < length is → get_or is k 0 ≤ get_or bs k 0
    → n * (get_or bs k 0 + 1) + get_or is k 0 < 65536
    → place_of (n * (get_or bs k 0 + 1) + get_or is k 0) (drop (k + 1) bs) (drop (k + 1) is)
    ≡ place_of n (drop k bs) (drop k is)
place_goes n bs is k h g below small =
    rw (drop-cons bs k 0 h, drop-cons is k 0 g, le-leb _ _ below, lt-ltb _ _ small, add-one k) refl

pub place_ends : (n : ℕ) (bs is : List ℕ) (k : ℕ) → length bs ≤ k → length is ≤ k
    → place_of n (drop k bs) (drop k is) ≡ Some n
place_ends n bs is k h g = rw (drop_all k bs h, drop_all k is g) refl
