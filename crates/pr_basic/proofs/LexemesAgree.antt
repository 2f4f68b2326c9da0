-- The lexemes of a line are those that the reader finds, and no others.
use Rattle.std.proofs.Common.{◌≡◌, ℕ, zero, suc, ◌<◌, ◌≤◌, List, [], ◌∷◌, ◌++◌, length, take, drop, refl, ap, subst, sym, ◌∙◌, arith, Bool, true, false, append-nil, length-append, length-drop, inl, inr}
use Rattle.std.specs.List.{list_all}
use Rattle.std.proofs.lemmas.Grind.{common_steps}
use Rattle.std.proofs.lemmas.List.{take-append-drop}
use Rattle.std.proofs.Math.Seq.{drop-append_seam}
use Rattle.pr_basic.specs.Lexemes.{AreLexemes, IsLexeme, IsStray, Lexeme, Spells, Stray, is_space}
use Rattle.pr_basic.specs.Lexing.{Front, front, lexemes_after, lexemes_of}
use Rattle.pr_basic.proofs.LexemeLaws.{first_lexeme}
use Rattle.pr_basic.proofs.Spelling.{IsFront, spelled_front}
use Rattle.pr_basic.proofs.Fronts.{front_spelled}

-- a stray byte is the front
stray_front : (bytes after : List ℕ) → IsStray bytes after → IsFront Stray bytes after
stray_front bytes after h =
    let k = front_spelled h.0 after in
    let f = front (h.0 ∷ after) in
    let one : f ≡ (Stray, 1) = elim k.0 [
      | inl e ↦ e
      | inr s ↦ absurd (h.3 f.0 (take f.1 (h.0 ∷ after)) (drop f.1 (h.0 ∷ after)) (take-append-drop f.1 (h.0 ∷ after)) s)
    ] in
    rw h.1 (one, h.2, omega arith)

-- a lexeme is the front
pub lexeme_front : (l : Lexeme) (bytes after : List ℕ) → IsLexeme l bytes after → IsFront l bytes after
lexeme_front l bytes after (inl h) = spelled_front l bytes after h
lexeme_front l bytes after (inr h) = rw h.0 (stray_front bytes after h.1)

-- spaces in front are passed
pub spaces_read : (sp bs : List ℕ) → list_all is_space sp ≡ true → lexemes_of (sp ++ bs) ≡ lexemes_of bs
unfolding lexemes_after
spaces_read [] bs h = refl
spaces_read (s ∷ sp) bs h =
    let first : is_space s ≡ true = grind (arith, common_steps) in
    let more : list_all is_space sp ≡ true = grind (arith, common_steps) in
    rw first (spaces_read sp bs more)

-- the lexemes of a line are found
pub lexemes_found : (bytes : List ℕ) (ls : List Lexeme) → AreLexemes bytes ls → lexemes_of bytes ≡ ls
unfolding lexemes_after
lexemes_found bytes [] h = ap lexemes_of (sym (append-nil bytes)) ∙ spaces_read bytes [] h
lexemes_found bytes (l ∷ ls) h =
    let f = lexeme_front l h.1 h.2 h.5 in
    let some : 0 < (front (h.1 ++ h.2)).1 = let P : Front → Type 0 = λ x. 0 < x.1 in subst P (sym f.0) f.2 in
    let size : 0 < length (h.1 ++ h.2) = omega (arith, length-append h.1 h.2, f.2) in
    ap lexemes_of h.3 ∙ (spaces_read h.0 (h.1 ++ h.2) h.4 ∙ (first_lexeme (h.1 ++ h.2) size f.1 some
    ∙ (ap (λ (x : Front). x.0 ∷ lexemes_of (drop x.1 (h.1 ++ h.2))) f.0
    ∙ (ap (λ v. l ∷ lexemes_of v) (drop-append_seam h.1 h.2) ∙ ap (λ v. l ∷ v) (lexemes_found h.2 ls h.6)))))

-- a space in front keeps the lexemes
space_before : (b : ℕ) (bs : List ℕ) (ls : List Lexeme) → is_space b ≡ true → AreLexemes bs ls → AreLexemes (b ∷ bs) ls
space_before b bs [] e h = rw (e, h) refl
space_before b bs (l ∷ ls) e h = (b ∷ h.0, h.1, h.2, ap (λ v. b ∷ v) h.3, rw (e, h.4) refl, h.5, h.6)

-- what is spelled at the front and elsewhere is one lexeme
none_spelled : (b : ℕ) (bs : List ℕ) → front (b ∷ bs) ≡ (Stray, 1) → (l : Lexeme) (bytes rest : List ℕ) → bytes ++ rest ≡ b ∷ bs → Spells l bytes rest → ⊥
none_spelled b bs h l bytes rest e s =
    let f = spelled_front l bytes rest s in
    let same : l ≡ Stray = ap (λ (x : Front). x.0) (sym f.0 ∙ (ap front e ∙ h)) in
    let P : Lexeme → Type 0 = λ x. Spells x bytes rest in
    subst P same s

-- what is found at the front is a lexeme
pub front_lexeme : (b : ℕ) (bs : List ℕ) → is_space b ≡ false → IsLexeme (front (b ∷ bs)).0 (take (front (b ∷ bs)).1 (b ∷ bs)) (drop (front (b ∷ bs)).1 (b ∷ bs))
front_lexeme b bs h = elim (front_spelled b bs).0 [
  | inl e ↦ inr (ap (λ (x : Front). x.0) e, rw e (b, refl, h, λ l bytes rest k s. none_spelled b bs e l bytes rest k s))
  | inr s ↦ inl s
]

-- the lexemes that are found are the line's
pub lexemes_spelled : (n : ℕ) (bs : List ℕ) → length bs ≤ n → AreLexemes bs (lexemes_of bs)
unfolding lexemes_after
lexemes_spelled n [] h = refl
lexemes_spelled zero (b ∷ bs) h = absurd (omega arith)
lexemes_spelled (suc n) (b ∷ bs) h = cases (is_space b) refl
    (lexemes_spelled n bs (omega arith))
    (lexemes_spelled n (drop (front (b ∷ bs)).1 (b ∷ bs)) (omega (arith, length-drop (front (b ∷ bs)).1 (b ∷ bs), (front_spelled b bs).1)))
  where
    cases : (t : Bool) → is_space b ≡ t → AreLexemes bs (lexemes_of bs)
        → AreLexemes (drop (front (b ∷ bs)).1 (b ∷ bs)) (lexemes_of (drop (front (b ∷ bs)).1 (b ∷ bs)))
        → AreLexemes (b ∷ bs) (lexemes_of (b ∷ bs))
    cases true e here there =
        let same : lexemes_of bs ≡ lexemes_of (b ∷ bs) = rw e refl in
        let P : List Lexeme → Type 0 = λ ls. AreLexemes (b ∷ bs) ls in
        subst P same (space_before b bs (lexemes_of bs) e here)
    cases false e here there =
        let f = front (b ∷ bs) in
        let all : lexemes_of (b ∷ bs) ≡ f.0 ∷ lexemes_of (drop f.1 (b ∷ bs)) = first_lexeme (b ∷ bs) (omega arith) e (front_spelled b bs).1 in
        let P : List Lexeme → Type 0 = λ ls. AreLexemes (b ∷ bs) ls in
        subst P (sym all) ([], take f.1 (b ∷ bs), drop f.1 (b ∷ bs), sym (take-append-drop f.1 (b ∷ bs)), refl, front_lexeme b bs e, there)
