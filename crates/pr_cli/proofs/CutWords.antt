-- The words of a text, one by one.
use Rattle.std.proofs.Common.{◌≡◌, ℕ, suc, ◌+◌, ◌<◌, List, [], ◌∷◌, ◌++◌, get_or, length, drop, drop-cons, sym, ap, ◌∙◌, add-one, append_assoc}
use Rattle.std.specs.Prelude.{map}
use Rattle.std.proofs.lemmas.List.{map-append}

-- the next word is the first of those that are left
cut_at : (ws : List (List ℕ)) (i : ℕ) (w : List ℕ) → i < length ws → w ≡ get_or ws i w → drop i ws ≡ w ∷ drop (i + 1) ws
cut_at ws i w within is = rw add-one (drop-cons ws i w within ∙ ap (λ v. v ∷ drop (suc i) ws) (sym is))

pub one_word : {X : Type 0} (text : X → List ℕ) (kept : List X) (x : X) (ws all : List (List ℕ)) (i : ℕ) → i < length ws → text x ≡ get_or ws i (text x)
    → map text kept ++ drop i ws ≡ all → map text (kept ++ x ∷ []) ++ drop (i + 1) ws ≡ all
one_word text kept x ws all i within is e =
    ap (λ l. l ++ drop (i + 1) ws) (map-append text kept (x ∷ []))
    ∙ (append_assoc (map text kept) (text x ∷ []) (drop (i + 1) ws)
    ∙ (ap (λ l. map text kept ++ l) (sym (cut_at ws i (text x) within is)) ∙ e))
