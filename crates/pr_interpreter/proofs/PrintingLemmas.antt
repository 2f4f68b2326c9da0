use Rattle.std.proofs.Common.{◌≡◌, ◌≢◌, ℕ, zero, suc, ◌+◌, ◌<◌, List, [], ◌∷◌, length, take, get_or, arith, refl}
use Rattle.std.proofs.Common.{add-one}
use Rattle.std.proofs.lemmas.Bool.{ne_eqb}
use Rattle.pr_interpreter.specs.Printing.{significant}

-- ---- the last digit that is not 0

pub significant_one : (d : ℕ) → d ≢ 48 → significant (d ∷ []) ≡ 1
unfolding significant
significant_one d h = rw (ne_eqb d 48 h) refl

pub significant_next : (ds : List ℕ) (i : ℕ) → i < length ds → get_or ds i 0 ≢ 48
    → significant (take (suc i) ds) ≡ suc i
unfolding significant
significant_next [] i h ne = absurd (omega arith)
significant_next (x ∷ xs) zero h ne = significant_one x ne
significant_next (x ∷ xs) (suc i) h ne =
    let less : i < length xs = omega arith in
    let some : suc i ≢ 0 = (λ e. omega arith) in
    rw (significant_next xs i less ne, ne_eqb (suc i) 0 some) (add-one (suc i))

pub significant_kept : (ds : List ℕ) (i : ℕ) → i < length ds → get_or ds i 0 ≡ 48
    → significant (take (suc i) ds) ≡ significant (take i ds)
unfolding significant
significant_kept [] i h e = absurd (omega arith)
significant_kept (x ∷ xs) zero h e = rw e refl
significant_kept (x ∷ xs) (suc i) h e =
    let less : i < length xs = omega arith in
    rw (significant_kept xs i less e) refl

pub significant_more : (ds : List ℕ) (i : ℕ) → i < length ds → get_or ds i 0 ≢ 48
    → significant (take (i + 1) ds) ≡ i + 1
significant_more ds i h ne = rw (add-one i) (significant_next ds i h ne)

pub significant_same : (ds : List ℕ) (i : ℕ) → i < length ds → get_or ds i 0 ≡ 48
    → significant (take (i + 1) ds) ≡ significant (take i ds)
significant_same ds i h e = rw (add-one i) (significant_kept ds i h e)

pub significant_none : significant [] ≡ 0
unfolding significant
significant_none = refl
