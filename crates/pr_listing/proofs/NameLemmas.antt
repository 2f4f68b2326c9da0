-- Laws of the table of names, and of numbers that digits spell.
use Rattle.std.proofs.Common.{◌≡◌, ℕ, ◌+◌, ◌-◌, ◌*◌, ◌<◌, ◌≤◌, Bool, true, false, List, [], ◌∷◌, length, get_or, drop, refl, arith, None, Some, add-one, drop-cons}
use Rattle.std.specs.List.{position_from}
use Rattle.pr_base.specs.Digits.{number_after, number_of}
use Rattle.pr_base.specs.Lines.{lines_of}

-- a name that is not the next is looked for after it
pub passed : (t : List ℕ → Bool) (x : List ℕ) (xs : List (List ℕ)) (i : ℕ) → t x ≡ false → position_from t i (x ∷ xs) ≡ position_from t (i + 1) xs
passed t x xs i e = rw e refl

-- a name that is the next is found
pub found : (t : List ℕ → Bool) (x : List ℕ) (xs : List (List ℕ)) (i : ℕ) → t x ≡ true → position_from t i (x ∷ xs) ≡ Some i
found t x xs i e = rw e refl

-- no name is found in no text
pub not_found : (t : List ℕ → Bool) (bs : List ℕ) (i : ℕ) → length bs ≡ 0 → position_from t i (lines_of bs) ≡ None
unfolding lines_of
not_found t [] i h = refl
not_found t (b ∷ bs) i h = absurd (omega arith)

-- more digits make no smaller number
grows : (n : ℕ) (ds : List ℕ) → n ≤ number_after n ds
grows n [] = omega arith
grows n (d ∷ ds) = omega (arith, grows (10 * n + (d - 48)) ds)

-- one more digit
pub next_digit : (n : ℕ) (ds : List ℕ) (i : ℕ) → i < length ds → number_after (10 * n + (get_or ds i 0 - 48)) (drop (i + 1) ds) ≡ number_after n (drop i ds)
next_digit n ds i h = rw (drop-cons ds i 0, add-one) refl

-- digits that spell too much in front spell too much
pub above : (n : ℕ) (ds : List ℕ) (i : ℕ) → i < length ds → number_after n (drop i ds) ≡ number_of ds → 255 < 10 * n + (get_or ds i 0 - 48) → 255 < number_of ds
above n ds i h e l = omega (arith, e, next_digit n ds i h, grows (10 * n + (get_or ds i 0 - 48)) (drop (i + 1) ds))
