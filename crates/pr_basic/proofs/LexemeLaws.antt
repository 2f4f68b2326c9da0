-- Laws of the lexemes of a line.
use Rattle.std.proofs.Common.{◌≡◌, ℕ, zero, suc, ◌-◌, ◌<◌, List, [], ◌∷◌, length, get_or, drop, refl, ap, subst, sym, ◌∙◌, arith, true, drop-cons}
use Rattle.pr_basic.specs.declared.lexemes.Lexeme as code
use Rattle.pr_basic.specs.declared.lexemes.Lexeme.TheVariants as the
use Rattle.pr_basic.specs.Lexemes.{Lexeme, NoSpace, is_space}
use Rattle.pr_basic.specs.Lexing.{Front, after_part, front, here, later, lexemes_after, lexemes_of, part_of}
use Rattle.pr_basic.specs.Seen.{seen}

-- what is left of a lexeme is passed over
pub after_skip : (n : ℕ) (bs : List ℕ) → lexemes_after n bs ≡ lexemes_after 0 (drop n bs)
unfolding lexemes_after
after_skip zero bs = refl
after_skip (suc n) [] = refl
after_skip (suc n) (b ∷ bs) = after_skip n bs

-- the first lexeme, and those of the bytes after it
pub first_lexeme : (bs : List ℕ) → 0 < length bs → NoSpace bs → 0 < (front bs).1 → lexemes_of bs ≡ (front bs).0 ∷ lexemes_of (drop (front bs).1 bs)
unfolding lexemes_after
first_lexeme [] h s some = absurd (omega arith)
first_lexeme (b ∷ bs) h s some =
    let skipped : lexemes_after ((front (b ∷ bs)).1 - 1) bs ≡ lexemes_of (drop ((front (b ∷ bs)).1 - 1) bs) = after_skip ((front (b ∷ bs)).1 - 1) bs in
    let same : drop (front (b ∷ bs)).1 (b ∷ bs) ≡ drop ((front (b ∷ bs)).1 - 1) bs = drop_more (front (b ∷ bs)).1 b bs some in
    rw (s, same, skipped) refl
  where
    drop_more : (n b : ℕ) (bs : List ℕ) → 0 < n → drop n (b ∷ bs) ≡ drop (n - 1) bs
    drop_more zero b bs h = absurd (omega arith)
    drop_more (suc n) b bs h = let e : suc n - 1 ≡ n = omega arith in rw e refl

-- a space in front is passed over
pub space_skipped : (bs : List ℕ) (i : ℕ) → i < length bs → is_space (get_or bs i 0) ≡ true → lexemes_of (drop i bs) ≡ lexemes_of (drop (suc i) bs)
unfolding lexemes_after
space_skipped bs i h s = rw (drop-cons bs i 0, s) refl

-- what is not a colon goes on the part
pub part_goes_on : (l : code.Lexeme) (ls : List Lexeme) → (l ≡ the.Colon → ⊥) → (part_of (seen l ∷ ls) ≡ seen l ∷ part_of ls) × (after_part (seen l ∷ ls) ≡ after_part ls)
unfolding part_of after_part
part_goes_on (the.Word k) ls no_colon = (refl, refl)
part_goes_on the.Remark ls no_colon = (refl, refl)
part_goes_on (the.Digits ds) ls no_colon = (refl, refl)
part_goes_on (the.Quoted bs) ls no_colon = (refl, refl)
part_goes_on the.Comma ls no_colon = (refl, refl)
part_goes_on the.Semicolon ls no_colon = (refl, refl)
part_goes_on the.Colon ls no_colon = absurd (no_colon refl)
part_goes_on the.OpenParen ls no_colon = (refl, refl)
part_goes_on the.CloseParen ls no_colon = (refl, refl)
part_goes_on the.Stray ls no_colon = (refl, refl)

-- the next lexeme
pub lexemes_next : (orig bs : List ℕ) (l : code.Lexeme) (n : ℕ) → lexemes_of bs ≡ lexemes_of orig → 0 < length bs → NoSpace bs → (seen l, n) ≡ front bs → 0 < n → lexemes_of orig ≡ seen l ∷ lexemes_of (drop n bs)
lexemes_next orig bs l n same h s e some =
    let some' : 0 < (front bs).1 = let P : Front → Type 0 = λ f. 0 < f.1 in subst P e some in
    sym same ∙ (first_lexeme bs h s some' ∙ ap (λ (f : Front). f.0 ∷ lexemes_of (drop f.1 bs)) (sym e))

-- no lexeme is left
pub no_lexeme : (orig bs : List ℕ) → lexemes_of bs ≡ lexemes_of orig → length bs ≡ 0 → lexemes_of orig ≡ []
unfolding lexemes_after
no_lexeme orig [] same h = sym same
no_lexeme orig (b ∷ bs) same h = absurd (omega arith)

-- the part at the front where no lexeme is left
pub no_part : (bs : List ℕ) → lexemes_of bs ≡ [] → (here bs ≡ []) × (later bs ≡ [])
unfolding part_of after_part
no_part bs h = (ap part_of h, ap after_part h)

-- a colon ends the part
pub colon_part : (bs more : List ℕ) (l : code.Lexeme) → lexemes_of bs ≡ seen l ∷ lexemes_of more → l ≡ the.Colon → (here bs ≡ []) × (later bs ≡ lexemes_of more)
unfolding part_of after_part
colon_part bs more l h colon = (ap part_of h ∙ rw colon refl, ap after_part h ∙ rw colon refl)

-- another lexeme goes on the part
pub part_next : (bs more : List ℕ) (l : code.Lexeme) → lexemes_of bs ≡ seen l ∷ lexemes_of more → (l ≡ the.Colon → ⊥) → (here bs ≡ seen l ∷ here more) × (later bs ≡ later more)
part_next bs more l h other =
    (ap part_of h ∙ (part_goes_on l (lexemes_of more) other).0, ap after_part h ∙ (part_goes_on l (lexemes_of more) other).1)
