-- Words that vectors hold.
use Rattle.std.proofs.Common.{◌≡◌, ℕ, zero, suc, ◌-◌, ◌<◌, ◌≤◌, List, [], ◌∷◌, length, take, get_or, refl, ap, sym, arith, Some, None, Vec}
use Rattle.std.specs.Global.{Global}
use Rattle.pr_capture.specs.Csv.{field_at}
use Rattle.std.proofs.lemmas.List.{length-map, take-map}
use Rattle.pr_capture.specs.VcdReading.{without_last}
use Rattle.pr_capture.specs.VcdSteps.{words_in}

-- the word of a place
pub word-there : (vs : List (Vec ℕ Global)) (place : ℕ) (v : Vec ℕ Global) → place < length vs → v ≡ get_or vs place v
    → field_at place (words_in vs) ≡ Some v.items
word-there [] place v h e = absurd (omega arith)
word-there (w ∷ ws) zero v h e = let same : w ≡ v = sym e in ap (λ (u : Vec ℕ Global). Some u.items) same
word-there (w ∷ ws) (suc place) v h e = word-there ws place v (omega arith) e

-- none is after the last
pub word-none : (vs : List (Vec ℕ Global)) (place : ℕ) → length vs ≤ place → field_at place (words_in vs) ≡ None
word-none [] place h = refl
word-none (w ∷ ws) zero h = absurd (omega arith)
word-none (w ∷ ws) (suc place) h = word-none ws place (omega arith)

-- the words of all vectors but the last
pub words-cut : (vs ws : List (Vec ℕ Global)) (n : ℕ) → ws ≡ take n vs → n ≡ length vs - 1 → words_in ws ≡ without_last (words_in vs)
words-cut vs ws n e h =
    let count : length (words_in vs) ≡ length vs = length-map vs (λ (v : Vec ℕ Global). v.items) in
    let same : length (words_in vs) - 1 ≡ n = omega (arith, count, h) in
    rw (e, same) (sym (take-map (λ (v : Vec ℕ Global). v.items) n vs))
