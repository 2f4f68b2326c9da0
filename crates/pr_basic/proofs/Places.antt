-- What is left of a line after some of its lexemes.
use Rattle.std.proofs.Common.{◌≡◌, ℕ, zero, suc, ◌+◌, ◌-◌, ◌<◌, ◌≤◌, List, [], ◌∷◌, ◌++◌, length, drop, refl, ap, Result, Ok, Err, Bor, sym, ◌∙◌, arith, true, false, append_assoc, append-nil, length-append, get_or, drop-cons}
use Rattle.std.proofs.lemmas.List.{drop_all}
use Rattle.pr_basic.specs.Lexemes.{Lexeme, is_space}
use Rattle.pr_basic.specs.Reads.{ReadsOn}
use Rattle.pr_basic.specs.declared.fault.Flaw.{Flaw}
use Rattle.pr_basic.specs.Lexing.{Front, IsRest, after_first, front, here, past, unspaced}

-- what is left after lexemes, and then more of them
pub past_past : (m n : ℕ) (bs : List ℕ) → past n (past m bs) ≡ past (m + n) bs
unfolding past
past_past zero n bs = let e : n ≡ 0 + n = omega arith in ap (λ k. past k bs) e
past_past (suc m) n bs = let e : suc (m + n) ≡ suc m + n = omega arith in past_past m n (after_first bs) ∙ ap (λ k. past k bs) e

-- all is left after none
pub rest_same : (bs : List ℕ) → IsRest bs bs
unfolding past
rest_same bs = record { gone = []; is = refl; goes_on = refl }

-- one lexeme more
pub rest_next : (l : Lexeme) (rest bs : List ℕ) → rest ≡ after_first bs → here bs ≡ l ∷ here rest → IsRest rest bs
unfolding past
rest_next l rest bs h k = record { gone = l ∷ []; is = h; goes_on = k }

-- what is left of what is left
pub rest_on : (rest more bs : List ℕ) → IsRest rest more → IsRest more bs → IsRest rest bs
rest_on rest more bs h k = record {
  gone = k.gone ++ h.gone;
  is = h.is ∙ ap (past (length h.gone)) k.is ∙ past_past (length k.gone) (length h.gone) bs ∙ ap (λ n. past n bs) (sym (length-append k.gone h.gone));
  goes_on = k.goes_on ∙ ap (λ v. k.gone ++ v) h.goes_on ∙ sym (append_assoc k.gone h.gone (here rest));
}

-- a colon after the part at the front
pub past_colon : (more rest bs : List ℕ) → IsRest rest bs → here rest ≡ [] → more ≡ after_first rest → more ≡ past (suc (length (here bs))) bs
unfolding past
past_colon more rest bs h none is =
    let size : length (here bs) ≡ length h.gone = ap length (h.goes_on ∙ ap (λ v. h.gone ++ v) none ∙ append-nil h.gone) in
    let one : suc (length (here bs)) ≡ length h.gone + 1 = omega arith in
    is ∙ ap after_first h.is ∙ past_past (length h.gone) 1 bs ∙ ap (λ n. past n bs) (sym one)

-- a space in front is passed
pub unspaced_skip : (bs : List ℕ) (i : ℕ) → i < length bs → is_space (get_or bs i 0) ≡ true → unspaced (drop i bs) ≡ unspaced (drop (suc i) bs)
unfolding unspaced
unspaced_skip bs i h s = rw (drop-cons bs i 0, s) refl

-- another byte is not
pub unspaced_here : (bs : List ℕ) (i : ℕ) → i < length bs → is_space (get_or bs i 0) ≡ false → drop i bs ≡ unspaced (drop i bs)
unfolding unspaced
unspaced_here bs i h s = rw (drop-cons bs i 0, s) refl

-- nothing is left after the last byte
pub unspaced_none : (bs : List ℕ) (i : ℕ) → length bs ≤ i → [] ≡ unspaced (drop i bs)
unfolding unspaced
unspaced_none bs i h = rw (drop_all i bs h) refl

-- the bytes after the first lexeme
pub after_front : (bs r : List ℕ) (l : Lexeme) (n : ℕ) → r ≡ unspaced bs → (l, n) ≡ front r → drop n r ≡ after_first bs
after_front bs r l n h e =
    let size : n ≡ (front r).1 = ap (λ (f : Front). f.1) e in
    rw (size, h) refl

-- what was read of what is left
pub reads_on : {X : Type 0} (r : Result (X × Bor (List ℕ)) Flaw) (more bs : List ℕ) → ReadsOn r more → IsRest more bs → ReadsOn r bs
reads_on (Ok p) more bs h k = rest_on p.1.now more bs h k
reads_on (Err e) more bs h k = rest_on e.rest.now more bs h k
