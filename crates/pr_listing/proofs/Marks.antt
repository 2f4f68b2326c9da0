-- A list up to its first mark: up to the first element at which a test fails.
use Rattle.std.proofs.Common.{◌≡◌, ℕ, suc, ◌<◌, Bool, true, false, List, [], ◌∷◌, ◌++◌, length, take, drop, refl, ap, sym, ◌∙◌, arith, subst, one-add}
use Rattle.std.proofs.lemmas.Grind.{common_steps}
use Rattle.std.specs.List.{list_all, prefix_len}

-- the test holds of all before the mark
pub before_mark : (p : ℕ → Bool) (xs : List ℕ) → list_all p (take (prefix_len p xs) xs) ≡ true
before_mark p [] = refl
before_mark p (x ∷ xs) = step (p x) refl (before_mark p xs)
  where
    step : (t : Bool) → p x ≡ t → list_all p (take (prefix_len p xs) xs) ≡ true → list_all p (take (prefix_len p (x ∷ xs)) (x ∷ xs)) ≡ true
    step true e k = rw (e, one-add) (rw (e, k) refl)
    step false e k = rw e refl

-- where no mark is, the test holds of all
pub no_mark : (p : ℕ → Bool) (xs : List ℕ) → prefix_len p xs ≡ length xs → list_all p xs ≡ true
no_mark p xs e = grind (arith, common_steps, before_mark p xs)

-- the list is what is before the mark, the mark, and the rest
pub at_mark : (p : ℕ → Bool) (m : ℕ) (fails : (b : ℕ) → p b ≡ false → b ≡ m) (xs : List ℕ) → prefix_len p xs < length xs → xs ≡ take (prefix_len p xs) xs ++ m ∷ drop (suc (prefix_len p xs)) xs
at_mark p m fails [] h = absurd (omega arith)
at_mark p m fails (x ∷ xs) h = step (p x) refl (at_mark p m fails xs) h
  where
    step : (t : Bool) → p x ≡ t → (prefix_len p xs < length xs → xs ≡ take (prefix_len p xs) xs ++ m ∷ drop (suc (prefix_len p xs)) xs)
        → prefix_len p (x ∷ xs) < length (x ∷ xs) → x ∷ xs ≡ take (prefix_len p (x ∷ xs)) (x ∷ xs) ++ m ∷ drop (suc (prefix_len p (x ∷ xs))) (x ∷ xs)
    step true e k =
        let P : ℕ → Type 0 = λ n. n < length (x ∷ xs) → x ∷ xs ≡ take n (x ∷ xs) ++ m ∷ drop (suc n) (x ∷ xs) in
        let n_is : suc (prefix_len p xs) ≡ prefix_len p (x ∷ xs) = rw (e, one-add) refl in
        subst P n_is (λ l. ap (λ v. x ∷ v) (k (omega arith)))
    step false e k =
        let P : ℕ → Type 0 = λ n. n < length (x ∷ xs) → x ∷ xs ≡ take n (x ∷ xs) ++ m ∷ drop (suc n) (x ∷ xs) in
        let n_is : 0 ≡ prefix_len p (x ∷ xs) = rw e refl in
        subst P n_is (λ l. ap (λ v. v ∷ xs) (fails x e))

-- the two parts of a test that is true of a list
first_and_more : (p : ℕ → Bool) (x : ℕ) (xs : List ℕ) → list_all p (x ∷ xs) ≡ true → (p x ≡ true) × (list_all p xs ≡ true)
first_and_more p x xs h = grind (arith, common_steps)

-- a list is cut at its first mark in one way
pub first_mark : (p : ℕ → Bool) (m : ℕ) (fail : p m ≡ false) (xs ys r s : List ℕ) → list_all p xs ≡ true → list_all p ys ≡ true → xs ++ m ∷ r ≡ ys ++ m ∷ s → (xs ≡ ys) × (r ≡ s)
first_mark p m fail [] [] r s a b e = (refl, cc)
first_mark p m fail [] (y ∷ ys) r s a b e =
    let k : p y ≡ true = (first_and_more p y ys b).0 in
    let same : m ≡ y = cc in
    let both : true ≡ false = sym k ∙ (ap p (sym same) ∙ fail) in
    absurd (cc)
first_mark p m fail (x ∷ xs) [] r s a b e =
    let k : p x ≡ true = (first_and_more p x xs a).0 in
    let same : m ≡ x = cc in
    let both : true ≡ false = sym k ∙ (ap p (sym same) ∙ fail) in
    absurd (cc)
first_mark p m fail (x ∷ xs) (y ∷ ys) r s a b e =
    let same : x ≡ y = cc in
    let more : xs ++ m ∷ r ≡ ys ++ m ∷ s = cc in
    let k : (xs ≡ ys) × (r ≡ s) = first_mark p m fail xs ys r s (first_and_more p x xs a).1 (first_and_more p y ys b).1 more in
    let k0 : xs ≡ ys = k.0 in
    (cc, k.1)

-- a mark comes before the end
pub mark_within : (p : ℕ → Bool) (m : ℕ) (fail : p m ≡ false) (xs r : List ℕ) → prefix_len p (xs ++ m ∷ r) < length (xs ++ m ∷ r)
mark_within p m fail [] r = rw fail (omega arith)
mark_within p m fail (x ∷ xs) r = step (p x) refl (mark_within p m fail xs r)
  where
    step : (t : Bool) → p x ≡ t → prefix_len p (xs ++ m ∷ r) < length (xs ++ m ∷ r) → prefix_len p (x ∷ (xs ++ m ∷ r)) < length (x ∷ (xs ++ m ∷ r))
    step true e k = rw (e, one-add) (omega arith)
    step false e k = rw e (omega arith)
