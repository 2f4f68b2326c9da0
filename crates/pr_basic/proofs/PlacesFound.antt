-- What is left of a line after some of its lexemes, as the definition of places has it.
use Rattle.std.proofs.Common.{◌≡◌, ℕ, zero, suc, ◌+◌, ◌-◌, ◌≤◌, List, [], ◌∷◌, ◌++◌, length, take, drop, refl, ap, subst, sym, ◌∙◌, arith, Bool, true, false, length-append, length-drop, inl, inr}
use Rattle.std.specs.List.{list_all}
use Rattle.std.proofs.lemmas.Grind.{common_steps}
use Rattle.std.proofs.lemmas.List.{take-append-drop}
use Rattle.std.proofs.Math.Seq.{drop-append_seam}
use Rattle.pr_basic.specs.Lexemes.{IsLexeme, Lexeme, NoSpace, Quoted, is_space}
use Rattle.pr_basic.specs.Lexing.{Front, after_first, front, lexemes_after, lexemes_of, past, unspaced}
use Rattle.pr_basic.specs.FaultPlaces.{BeginsWith}
use Rattle.pr_basic.proofs.LexemeLaws.{first_lexeme}
use Rattle.pr_basic.proofs.LexemesAgree.{front_lexeme, lexeme_front, spaces_read}
use Rattle.pr_basic.proofs.Fronts.{front_spelled}

-- spaces in front are passed over
unspaced_spaces : (sp bs : List ℕ) → list_all is_space sp ≡ true → NoSpace bs → unspaced (sp ++ bs) ≡ bs
unfolding unspaced
unspaced_spaces [] [] h n = refl
unspaced_spaces [] (b ∷ bs) h n = rw n refl
unspaced_spaces (s ∷ sp) bs h n =
    let first : is_space s ≡ true = grind (arith, common_steps) in
    let more : list_all is_space sp ≡ true = grind (arith, common_steps) in
    rw first (unspaced_spaces sp bs more n)

-- bytes with the spaces in front of them
pub record IsUnspaced (bs : List ℕ) : Type 0 where
  pub spaces : List ℕ
  pub cut : bs ≡ spaces ++ unspaced bs
  pub all : list_all is_space spaces ≡ true
  pub none : NoSpace (unspaced bs)

-- a space more in front
one_space : (b : ℕ) (bs : List ℕ) → is_space b ≡ true → IsUnspaced bs → IsUnspaced (b ∷ bs)
unfolding unspaced
one_space b bs e h = record { spaces = b ∷ h.spaces; cut = rw e (ap (λ v. b ∷ v) h.cut); all = rw (e, h.all) refl; none = rw e h.none }

-- another byte in front
no_space_more : (b : ℕ) (bs : List ℕ) → is_space b ≡ false → IsUnspaced (b ∷ bs)
unfolding unspaced
no_space_more b bs e = record { spaces = []; cut = rw e refl; all = refl; none = rw e e }

-- all bytes are spaces and what is left after them
pub spaces_cut : (bs : List ℕ) → IsUnspaced bs
unfolding unspaced
spaces_cut [] = record { spaces = []; cut = refl; all = refl; none = tt }
spaces_cut (b ∷ bs) = step (is_space b) refl (spaces_cut bs)
  where
    step : (t : Bool) → is_space b ≡ t → IsUnspaced bs → IsUnspaced (b ∷ bs)
    step true e k = one_space b bs e k
    step false e k = no_space_more b bs e

-- what is left after the first lexeme
left_after : (line spaces bytes after : List ℕ) (l : Lexeme) → line ≡ spaces ++ (bytes ++ after) → list_all is_space spaces ≡ true → IsLexeme l bytes after → after_first line ≡ after
left_after line spaces bytes after l h all is =
    let f = lexeme_front l bytes after is in
    let u : unspaced line ≡ bytes ++ after = ap unspaced h ∙ unspaced_spaces spaces (bytes ++ after) all f.1 in
    ap (λ v. drop (front v).1 v) u ∙ ap (λ (x : Front). drop x.1 (bytes ++ after)) f.0 ∙ drop-append_seam bytes after

-- what the definition says is left is left
pub begins_past : (line : List ℕ) (done : List Lexeme) (left : List ℕ) → BeginsWith line done left → left ≡ unspaced (past (length done) line)
unfolding past
begins_past line [] left h = sym (ap unspaced h.1 ∙ unspaced_spaces h.0 left h.2 h.3)
begins_past line (l ∷ ls) left h =
    let one : after_first line ≡ h.2 = left_after line h.0 h.1 h.2 l h.3 h.4 h.5 in
    begins_past h.2 ls left h.6 ∙ ap (λ v. unspaced (past (length ls) v)) (sym one)

-- the lexemes after spaces
pub lexemes_unspaced : (line : List ℕ) → lexemes_of line ≡ lexemes_of (unspaced line)
lexemes_unspaced line = let c = spaces_cut line in ap lexemes_of c.cut ∙ spaces_read c.spaces (unspaced line) c.all

-- the first lexeme, in the definition's words, and the others
pub record IsFirst (line : List ℕ) (l : Lexeme) (ls : List Lexeme) : Type 0 where
  pub spaces : List ℕ
  pub bytes : List ℕ
  pub cut : line ≡ spaces ++ (bytes ++ after_first line)
  pub all : list_all is_space spaces ≡ true
  pub is : IsLexeme l bytes (after_first line)
  pub more : lexemes_of (after_first line) ≡ ls

-- the first lexeme of bytes that are not none
first_at : (line u : List ℕ) (l : Lexeme) (ls : List Lexeme) → u ≡ unspaced line → IsUnspaced line → lexemes_of u ≡ l ∷ ls → IsFirst line l ls
unfolding lexemes_after
first_at line [] l ls same c h = absurd (cc)
first_at line (b ∷ bs) l ls same c h =
    let f = front (b ∷ bs) in
    let none : is_space b ≡ false = let P : List ℕ → Type 0 = λ v. NoSpace v in subst P (sym same) c.none in
    let all : lexemes_of (b ∷ bs) ≡ f.0 ∷ lexemes_of (drop f.1 (b ∷ bs)) = first_lexeme (b ∷ bs) (omega arith) none (front_spelled b bs).1 in
    let one : f.0 ∷ lexemes_of (drop f.1 (b ∷ bs)) ≡ l ∷ ls = sym all ∙ h in
    let first : f.0 ≡ l = cc in
    let rest : lexemes_of (drop f.1 (b ∷ bs)) ≡ ls = cc in
    let left : drop f.1 (b ∷ bs) ≡ after_first line = ap (λ v. drop (front v).1 v) same in
    let P : Lexeme → Type 0 = λ x. IsLexeme x (take f.1 (b ∷ bs)) (drop f.1 (b ∷ bs)) in
    let Q : List ℕ → Type 0 = λ v. IsLexeme l (take f.1 (b ∷ bs)) v in
    record {
      spaces = c.spaces;
      bytes = take f.1 (b ∷ bs);
      cut = c.cut ∙ ap (λ v. c.spaces ++ v) (sym same ∙ sym (take-append-drop f.1 (b ∷ bs)) ∙ ap (λ v. take f.1 (b ∷ bs) ++ v) left);
      all = c.all;
      is = subst Q left (subst P first (front_lexeme b bs none));
      more = ap lexemes_of (sym left) ∙ rest;
    }

-- the first lexeme of a line
pub first_of : (line : List ℕ) (l : Lexeme) (ls : List Lexeme) → lexemes_of line ≡ l ∷ ls → IsFirst line l ls
first_of line l ls h = first_at line (unspaced line) l ls refl (spaces_cut line) (sym (lexemes_unspaced line) ∙ h)

-- what is left after lexemes is so in the definition's words
pub past_begins : (done more : List Lexeme) (line : List ℕ) → lexemes_of line ≡ done ++ more → BeginsWith line done (unspaced (past (length done) line))
unfolding past
past_begins [] more line h = let c = spaces_cut line in (c.spaces, c.cut, c.all, c.none)
past_begins (l ∷ ls) more line h =
    let f = first_of line l (ls ++ more) h in
    (f.spaces, f.bytes, after_first line, f.cut, f.all, f.is, past_begins ls more (after_first line) f.more)

-- the lexemes of what is left
pub past_lexemes : (done more : List Lexeme) (line : List ℕ) → lexemes_of line ≡ done ++ more → lexemes_of (past (length done) line) ≡ more
unfolding past
past_lexemes [] more line h = h
past_lexemes (l ∷ ls) more line h = let f = first_of line l (ls ++ more) h in past_lexemes ls more (after_first line) f.more

-- no more is left than there was
pub unspaced_within : (line : List ℕ) → length (unspaced line) ≤ length line
unspaced_within line = let c = spaces_cut line in omega (arith, ap length c.cut, length-append c.spaces (unspaced line))

-- no more is left than there was, after this many lexemes
pub past_within : (n : ℕ) (line : List ℕ) → length (past n line) ≤ length line
unfolding past
past_within zero line = omega arith
past_within (suc n) line = omega (arith, past_within n (after_first line), length-drop (front (unspaced line)).1 (unspaced line), unspaced_within line)

-- a string and its quote are left where a string is the next lexeme
pub string_left : (line s : List ℕ) (ls : List Lexeme) → lexemes_of line ≡ Quoted s ∷ ls → suc (length s) ≤ length (unspaced line)
string_left line s ls h = cases f.is
  where
    f : IsFirst line (Quoted s) ls
    f = first_of line (Quoted s) ls h

    u : unspaced line ≡ f.bytes ++ after_first line
    u = ap unspaced f.cut ∙ unspaced_spaces f.spaces (f.bytes ++ after_first line) f.all (lexeme_front (Quoted s) f.bytes (after_first line) f.is).1

    size : suc (length s) ≤ length f.bytes → suc (length s) ≤ length (unspaced line)
    size k = omega (arith, k, ap length u, length-append f.bytes (after_first line))

    cases : IsLexeme (Quoted s) f.bytes (after_first line) → suc (length s) ≤ length (unspaced line)
    cases (inl (a, inl e)) = size (omega (arith, ap length e, length-append s (34 ∷ [])))
    cases (inl (a, inr e)) = size (omega (arith, ap length e.0))
    cases (inr e) = absurd (let k = e.0 in cc)
