-- The first line that may not have its number.
use Rattle.std.proofs.Common.{◌≡◌, ℕ, zero, suc, ◌+◌, ◌<◌, ◌≤◌, Bool, true, false, cond, List, [], ◌∷◌, length, get_or, Some, None, refl, sym, arith, ◌⊎◌, inl, inr}
use Rattle.std.specs.Prelude.{◌==◌, ◌&&◌, nat_lt}
use Rattle.std.proofs.lemmas.Bool.{and_parts, eqb-true, ltb-true}
use Rattle.pr_characters.specs.Rows.{first_bad, may_have, row_of, rows_from}

-- a line's number
same : (n f : ℕ) → Some n ≡ Some f → n ≡ f
same n f is = cc

-- the first bad line is none of those before
pub bad_from : (n f : ℕ) (lines : List (List ℕ)) → first_bad n lines ≡ Some f → n ≤ f
bad_from n f [] is = by (n == 2048) is
  where
    by : (b : Bool) → cond b None (Some n) ≡ Some f → n ≤ f
    by true is = absurd (cc)
    by false is = omega (arith, same n f is)
bad_from n f (line ∷ lines) is = by (nat_lt n 2048 && may_have n line) (bad_from (n + 1) f lines) is
  where
    by : (b : Bool) → (first_bad (n + 1) lines ≡ Some f → n + 1 ≤ f) → cond b (first_bad (n + 1) lines) (Some n) ≡ Some f → n ≤ f
    by true later is = omega (arith, later is)
    by false later is = omega (arith, same n f is)

-- it is not after the last line
pub bad_within : (n f : ℕ) (lines : List (List ℕ)) → first_bad n lines ≡ Some f → n ≤ 2048 → (f ≤ 2048) × (f ≤ n + length lines)
bad_within n f [] is few = by (n == 2048) is
  where
    by : (b : Bool) → cond b None (Some n) ≡ Some f → (f ≤ 2048) × (f ≤ n + length {A = List ℕ} [])
    by true is = absurd (cc)
    by false is = (omega (arith, same n f is), omega (arith, same n f is))
bad_within n f (line ∷ lines) is few = by (nat_lt n 2048 && may_have n line) refl (bad_within (n + 1) f lines) is
  where
    by : (b : Bool) → (nat_lt n 2048 && may_have n line) ≡ b
        → (first_bad (n + 1) lines ≡ Some f → n + 1 ≤ 2048 → (f ≤ 2048) × (f ≤ n + 1 + length lines))
        → cond b (first_bad (n + 1) lines) (Some n) ≡ Some f → (f ≤ 2048) × (f ≤ n + length (line ∷ lines))
    by true good later is =
        let below : n < 2048 = ltb-true n 2048 (and_parts (nat_lt n 2048) (may_have n line) good).0 in
        let rest : (f ≤ 2048) × (f ≤ n + 1 + length lines) = later is (omega arith) in
        (rest.0, omega (arith, rest.1))
    by false good later is = (omega (arith, same n f is), omega (arith, same n f is))

-- the lines before it may have their numbers
pub good_before : (n f k m : ℕ) (lines : List (List ℕ)) → first_bad n lines ≡ Some f → m ≡ n + k → m < f → may_have m (get_or lines k []) ≡ true
good_before n f k m [] is at before = by (n == 2048) is
  where
    by : (b : Bool) → cond b None (Some n) ≡ Some f → may_have m (get_or [] k []) ≡ true
    by true is = absurd (cc)
    by false is = absurd (omega (arith, same n f is))
good_before n f zero m (line ∷ lines) is at before = by (nat_lt n 2048 && may_have n line) refl is
  where
    by : (b : Bool) → (nat_lt n 2048 && may_have n line) ≡ b → cond b (first_bad (n + 1) lines) (Some n) ≡ Some f → may_have m line ≡ true
    by true good is =
        let here : m ≡ n = omega (arith, at) in
        rw here (and_parts (nat_lt n 2048) (may_have n line) good).1
    by false good is = absurd (omega (arith, same n f is))
good_before n f (suc k) m (line ∷ lines) is at before =
    by (nat_lt n 2048 && may_have n line) (λ next. good_before (n + 1) f k m lines next (omega (arith, at)) before) is
  where
    by : (b : Bool) → (first_bad (n + 1) lines ≡ Some f → may_have m (get_or lines k []) ≡ true)
        → cond b (first_bad (n + 1) lines) (Some n) ≡ Some f → may_have m (get_or lines k []) ≡ true
    by true later is = later is
    by false later is = absurd (omega (arith, same n f is))

-- it is missing, or there may be no such line, or it may not have its number
pub bad_there : (n f k : ℕ) (lines : List (List ℕ)) → first_bad n lines ≡ Some f → f ≡ n + k
    → ((length lines ≡ k) × (f ≡ 2048 → ⊥)) ⊎ ((k < length lines) × ((nat_lt f 2048 && may_have f (get_or lines k [])) ≡ false))
bad_there n f k [] is at = by (n == 2048) refl is
  where
    by : (b : Bool) → (n == 2048) ≡ b → cond b None (Some n) ≡ Some f
        → ((0 ≡ k) × (f ≡ 2048 → ⊥)) ⊎ ((k < 0) × ((nat_lt f 2048 && may_have f (get_or [] k [])) ≡ false))
    by true last is = absurd (cc)
    by false last is =
        let here : n ≡ f = same n f is in
        inl (omega (arith, at), λ end. grind (arith, last, here, end))
bad_there n f zero (line ∷ lines) is at = by (nat_lt n 2048 && may_have n line) refl (bad_from (n + 1) f lines) is
  where
    by : (b : Bool) → (nat_lt n 2048 && may_have n line) ≡ b → (first_bad (n + 1) lines ≡ Some f → n + 1 ≤ f)
        → cond b (first_bad (n + 1) lines) (Some n) ≡ Some f
        → ((length (line ∷ lines) ≡ 0) × (f ≡ 2048 → ⊥)) ⊎ ((0 < length (line ∷ lines)) × ((nat_lt f 2048 && may_have f line) ≡ false))
    by true good later is = absurd (omega (arith, at, later is))
    by false good later is =
        let here : f ≡ n = sym (same n f is) in
        inr (omega arith, rw here good)
bad_there n f (suc k) (line ∷ lines) is at =
    by (nat_lt n 2048 && may_have n line) (λ next. bad_there (n + 1) f k lines next (omega (arith, at))) is
  where
    by : (b : Bool)
        → (first_bad (n + 1) lines ≡ Some f
        → ((length lines ≡ k) × (f ≡ 2048 → ⊥)) ⊎ ((k < length lines) × ((nat_lt f 2048 && may_have f (get_or lines k [])) ≡ false)))
        → cond b (first_bad (n + 1) lines) (Some n) ≡ Some f
        → ((length (line ∷ lines) ≡ suc k) × (f ≡ 2048 → ⊥))
        ⊎ ((suc k < length (line ∷ lines)) × ((nat_lt f 2048 && may_have f (get_or lines k [])) ≡ false))
    by true later is = longer (later is)
      where
        longer : ((length lines ≡ k) × (f ≡ 2048 → ⊥)) ⊎ ((k < length lines) × ((nat_lt f 2048 && may_have f (get_or lines k [])) ≡ false))
            → ((length (line ∷ lines) ≡ suc k) × (f ≡ 2048 → ⊥))
            ⊎ ((suc k < length (line ∷ lines)) × ((nat_lt f 2048 && may_have f (get_or lines k [])) ≡ false))
        longer (inl there) = inl (omega (arith, there.0), there.1)
        longer (inr there) = inr (omega (arith, there.0), there.1)
    by false later is = absurd (omega (arith, at, same n f is))

-- where none is bad, each line may have its number, and all are there
pub all_good : (n k m : ℕ) (lines : List (List ℕ)) → first_bad n lines ≡ None → m ≡ n + k → k < length lines → may_have m (get_or lines k []) ≡ true
all_good n k m [] is at within = absurd (omega arith)
all_good n zero m (line ∷ lines) is at within = by (nat_lt n 2048 && may_have n line) refl is
  where
    by : (b : Bool) → (nat_lt n 2048 && may_have n line) ≡ b → cond b (first_bad (n + 1) lines) (Some n) ≡ None → may_have m line ≡ true
    by true good is =
        let here : m ≡ n = omega (arith, at) in
        rw here (and_parts (nat_lt n 2048) (may_have n line) good).1
    by false good is = absurd (cc)
all_good n (suc k) m (line ∷ lines) is at within =
    by (nat_lt n 2048 && may_have n line) (λ next. all_good (n + 1) k m lines next (omega (arith, at)) (omega arith)) is
  where
    by : (b : Bool) → (first_bad (n + 1) lines ≡ None → may_have m (get_or lines k []) ≡ true)
        → cond b (first_bad (n + 1) lines) (Some n) ≡ None → may_have m (get_or lines k []) ≡ true
    by true later is = later is
    by false later is = absurd (cc)

pub all_there : (n : ℕ) (lines : List (List ℕ)) → first_bad n lines ≡ None → n + length lines ≡ 2048
all_there n [] is = by (n == 2048) refl is
  where
    by : (b : Bool) → (n == 2048) ≡ b → cond b None (Some n) ≡ None → n + length {A = List ℕ} [] ≡ 2048
    by true last is = omega (arith, eqb-true n 2048 last)
    by false last is = absurd (cc)
all_there n (line ∷ lines) is = by (nat_lt n 2048 && may_have n line) (all_there (n + 1) lines) is
  where
    by : (b : Bool) → (first_bad (n + 1) lines ≡ None → n + 1 + length lines ≡ 2048)
        → cond b (first_bad (n + 1) lines) (Some n) ≡ None → n + length (line ∷ lines) ≡ 2048
    by true later is = omega (arith, later is)
    by false later is = absurd (cc)

-- the number of a line
pub row_at : (n k m : ℕ) (lines : List (List ℕ)) → m ≡ n + k → k < length lines → get_or (rows_from n lines) k 0 ≡ row_of m (get_or lines k [])
row_at n k m [] at within = absurd (omega arith)
row_at n zero m (line ∷ lines) at within = let here : m ≡ n = omega (arith, at) in rw here refl
row_at n (suc k) m (line ∷ lines) at within = row_at (n + 1) k m lines (omega (arith, at)) (omega arith)
