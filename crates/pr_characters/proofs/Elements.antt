-- Lists by their elements.
use Rattle.std.proofs.Common.{◌≡◌, ℕ, zero, suc, ◌+◌, ◌<◌, Bool, true, List, [], ◌∷◌, length, get_or, refl, sym, ◌∙◌, arith}
use Rattle.std.specs.Prelude.{map}
use Rattle.std.specs.List.{list_all, range_with_len}
use Rattle.std.proofs.lemmas.Bool.{and_from, and_parts}
use Rattle.std.proofs.lemmas.Grind.{same_number_lists}
use Rattle.std.proofs.lemmas.List.{ext_get_or}
use Rattle.std.proofs.lemmas.List.FromFn.{get_or-map-range_with_len, length-map-range_with_len}

-- what all elements pass, each does
pub all_at : {X : Type 0} (p : X → Bool) (d : X) (xs : List X) (k : ℕ) → list_all p xs ≡ true → k < length xs → p (get_or xs k d) ≡ true
all_at p d [] k all within = absurd (omega arith)
all_at p d (x ∷ xs) zero all within = (and_parts (p x) (list_all p xs) all).0
all_at p d (x ∷ xs) (suc k) all within = all_at p d xs k (and_parts (p x) (list_all p xs) all).1 (omega arith)

-- what a function gives passes, where each of its values does
pub all_given : {X Y : Type 0} (p : Y → Bool) (f : X → Y) → ((x : X) → p (f x) ≡ true) → (xs : List X) → list_all p (map f xs) ≡ true
all_given p f each [] = refl
all_given p f each (x ∷ xs) = and_from (p (f x)) (list_all p (map f xs)) (each x) (all_given p f each xs)

-- a list whose elements a function gives, from a number on
pub are_given : {X : Type 0} (f : ℕ → X) (first n : ℕ) (d : X) (xs : List X) → length xs ≡ n → ((k : ℕ) → k < n → get_or xs k d ≡ f (first + k))
    → xs ≡ map f (range_with_len first n)
are_given f first n d xs long given =
    ext_get_or d xs (map f (range_with_len first n)) (long ∙ sym (length-map-range_with_len f first n))
    (λ k before. given k (omega arith) ∙ sym (get_or-map-range_with_len f first n k (first + k) d (omega arith) refl))

-- six elements
pub six : (xs : List ℕ) → length xs ≡ 6
    → xs ≡ get_or xs 0 0 ∷ get_or xs 1 0 ∷ get_or xs 2 0 ∷ get_or xs 3 0 ∷ get_or xs 4 0 ∷ get_or xs 5 0 ∷ []
six xs long =
    same_number_lists xs (get_or xs 0 0 ∷ get_or xs 1 0 ∷ get_or xs 2 0 ∷ get_or xs 3 0 ∷ get_or xs 4 0 ∷ get_or xs 5 0 ∷ []) long
    (λ k within. at k (omega arith))
  where
    at : (k : ℕ) → k < 6 → get_or xs k 0 ≡ get_or (get_or xs 0 0 ∷ get_or xs 1 0 ∷ get_or xs 2 0 ∷ get_or xs 3 0 ∷ get_or xs 4 0 ∷ get_or xs 5 0 ∷ []) k 0
    at zero within = refl
    at (suc zero) within = refl
    at (suc (suc zero)) within = refl
    at (suc (suc (suc zero))) within = refl
    at (suc (suc (suc (suc zero)))) within = refl
    at (suc (suc (suc (suc (suc zero))))) within = refl
    at (suc (suc (suc (suc (suc (suc k)))))) within = absurd (omega arith)
