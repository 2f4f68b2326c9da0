-- Lines of which one passes a test.
use Rattle.std.proofs.Common.{◌≡◌, ℕ, Bool, true, false, List, [], ◌∷◌, length, refl, arith}
use Rattle.std.specs.List.{list_any}
use Rattle.pr_base.specs.Lines.{lines_of}

-- the first passes
pub has : (t : List ℕ → Bool) (x : List ℕ) (xs : List (List ℕ)) → t x ≡ true → list_any t (x ∷ xs) ≡ true
has t x xs e = rw e refl

-- the first does not pass
pub has_not : (t : List ℕ → Bool) (x : List ℕ) (xs : List (List ℕ)) → t x ≡ false → list_any t (x ∷ xs) ≡ list_any t xs
has_not t x xs e = rw e refl

-- no text has no lines
pub no_lines : (t : List ℕ → Bool) (bs : List ℕ) → length bs ≡ 0 → list_any t (lines_of bs) ≡ false
unfolding lines_of
no_lines t [] h = refl
no_lines t (b ∷ bs) h = absurd (omega arith)
