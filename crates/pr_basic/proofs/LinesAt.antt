-- The line of a place, the number of a line and the lexeme at the front of bytes.
use Rattle.std.proofs.Common.{◌≡◌, ℕ, suc, ◌+◌, ◌-◌, ◌<◌, ◌≤◌, List, [], ◌∷◌, ◌++◌, length, take, drop, min, refl, ap, Bor, subst, sym, ◌∙◌, arith, false, append_assoc, append-nil, get_or, length-append, ◌⊎◌, inl, inr}
use Rattle.std.proofs.lemmas.List.{take-append-drop}
use Rattle.pr_base.specs.Digits.{number_of}
use Rattle.pr_base.specs.Lines.{lines_of}
use Rattle.pr_basic.specs.Grammar.{without_return}
use Rattle.pr_basic.specs.Lexemes.{Digits, Lexeme, NoSpace, is_space}
use Rattle.pr_basic.specs.Lexing.{front, lexemes_of}
use Rattle.pr_basic.specs.FaultPlaces.{at_number, size_of}
use Rattle.pr_basic.specs.Seen.{seen}
use Rattle.pr_basic.specs.declared.lexemes.Lexeme as code
use Rattle.pr_basic.specs.declared.lexemes.Lexeme.TheVariants as the
use Rattle.pr_basic.specs.FaultLaws.{FaultsTellTheirLine, PlacesHaveOneLine}
use Rattle.pr_basic.specs.LineAt.{HasBasicNumber, IsLexemeAt, IsLineAt}
use Rattle.pr_basic.proofs.LexemesAgree.{front_lexeme, lexeme_front, lexemes_found, lexemes_spelled}
use Rattle.pr_basic.proofs.LineLaws.{return_within}
use Rattle.pr_basic.proofs.ScriptFaults.{column_within}

-- the size of lines and more lines
pub size_append : (xs ys : List (List ℕ)) → size_of (xs ++ ys) ≡ size_of xs + size_of ys
size_append [] ys = omega arith
size_append (x ∷ xs) ys = omega (arith, size_append xs ys)

-- the lines before those that are left, none of which reaches a place
pub record AreBefore (text : List ℕ) (place number : ℕ) (rest : List ℕ) : Type 0 where
  pub before : List (List ℕ)
  pub cut : lines_of text ≡ before ++ lines_of rest
  pub numbered : number ≡ length before
  pub from : size_of before ≤ place
  pub sized : 0 < length rest → size_of before + length rest ≡ length text

-- none at first
pub none_before : (text : List ℕ) (place : ℕ) → AreBefore text place 0 text
none_before text place = record { before = []; cut = refl; numbered = refl; from = omega arith; sized = λ some. omega arith }

-- one line more
pub one_before : (text : List ℕ) (place number : ℕ) (rest line more : List ℕ) → AreBefore text place number rest → lines_of rest ≡ line ∷ lines_of more → 0 < length rest
    → (length more ≡ 0) ⊎ (length rest ≡ suc (length line) + length more) → length text - length rest + length line < place → AreBefore text place (number + 1) more
one_before text place number rest line more h cut some size past =
    let whole : size_of h.before + length rest ≡ length text = h.sized some in
    record {
      before = h.before ++ line ∷ [];
      cut = h.cut ∙ ap (λ v. h.before ++ v) cut ∙ sym (append_assoc h.before (line ∷ []) (lines_of more));
      numbered = omega (arith, h.numbered, length-append h.before (line ∷ []));
      from = omega (arith, size_append h.before (line ∷ []), whole, past);
      sized = left size;
    }
  where
    left : (length more ≡ 0) ⊎ (length rest ≡ suc (length line) + length more) → 0 < length more → size_of (h.before ++ line ∷ []) + length more ≡ length text
    left (inl e) k = absurd (omega (arith, e, k))
    left (inr e) k = omega (arith, e, size_append h.before (line ∷ []), h.sized some)

-- the line of a place
pub line_found : (text : List ℕ) (place number : ℕ) (rest line more : List ℕ) → AreBefore text place number rest → lines_of rest ≡ line ∷ lines_of more → 0 < length rest
    → place ≤ length text - length rest + length line → IsLineAt text place (length text - length rest) line (number + 1)
line_found text place number rest line more h cut some to =
    let whole : size_of h.before + length rest ≡ length text = h.sized some in
    record {
      before = h.before;
      after = lines_of more;
      cut = h.cut ∙ ap (λ v. h.before ++ v) cut;
      numbered = omega (arith, h.numbered);
      begins = omega (arith, whole);
      from = omega (arith, whole, h.from);
      to = to;
    }

-- no line reaches a place
pub no_line_found : (text : List ℕ) (place number : ℕ) (rest : List ℕ) → AreBefore text place number rest → length rest ≡ 0 → (start : ℕ) (line : List ℕ) (n : ℕ) → IsLineAt text place start line n → ⊥
unfolding lines_of
no_line_found text place number (b ∷ rest) h none start line n k = absurd (omega arith)
no_line_found text place number [] h none start line n k =
    let all : size_of (lines_of text) ≡ size_of h.before = ap size_of (h.cut ∙ append-nil h.before) in
    let cut : size_of (lines_of text) ≡ size_of k.before + size_of (line ∷ k.after) = ap size_of k.cut ∙ size_append k.before (line ∷ k.after) in
    absurd (omega (arith, all, cut, h.from, k.to, k.begins))

-- lines cut twice at a place are cut there once
one_cut : (place base : ℕ) (xs ys : List (List ℕ)) (line other : List ℕ) (after behind : List (List ℕ)) → xs ++ line ∷ after ≡ ys ++ other ∷ behind
    → base + size_of xs ≤ place → place ≤ base + size_of xs + length line → base + size_of ys ≤ place → place ≤ base + size_of ys + length other → (xs ≡ ys) × (line ≡ other)
one_cut place base [] [] line other after behind h a b c d = (refl, cc)
one_cut place base [] (y ∷ ys) line other after behind h a b c d =
    let same : line ≡ y = cc in
    absurd (omega (arith, ap length same))
one_cut place base (x ∷ xs) [] line other after behind h a b c d =
    let same : x ≡ other = cc in
    absurd (omega (arith, ap length same))
one_cut place base (x ∷ xs) (y ∷ ys) line other after behind h a b c d =
    let first : x ≡ y = cc in
    let more : xs ++ line ∷ after ≡ ys ++ other ∷ behind = cc in
    let size = ap length first in
    let r = one_cut place (base + suc (length x)) xs ys line other after behind more (omega (arith, a)) (omega (arith, b)) (omega (arith, c, size)) (omega (arith, d, size)) in
    (ap (λ v. v ∷ xs) first ∙ ap (λ v. y ∷ v) r.0, r.1)

-- a place is in one line
pub one_line : PlacesHaveOneLine
one_line text place start begin line other number count h k =
    let r = one_cut place 0 h.before k.before line other h.after k.after (sym h.cut ∙ k.cut) (omega (arith, h.from, h.begins)) (omega (arith, h.to, h.begins)) (omega (arith, k.from, k.begins)) (omega (arith, k.to, k.begins)) in
    (h.begins ∙ ap size_of r.0 ∙ sym k.begins, r.1, h.numbered ∙ ap (λ v. suc (length v)) r.0 ∙ sym k.numbered)

-- a first fault is in the line whose number it gives
pub told : FaultsTellTheirLine
told bytes fault place (f, number, g, e) =
    let short : g.column ≤ length (without_return g.line) = column_within _ f g.column (without_return g.line) g.fault in (
      f,
      size_of g.before,
      g.line,
      suc number,
      record {
        before = g.before;
        after = g.after;
        cut = g.cut;
        numbered = ap suc g.numbered;
        begins = refl;
        from = omega (arith, g.at);
        to = omega (arith, g.at, short, return_within g.line);
      },
      e ∙ ap (at_number f) (omega arith),
    )

-- a number that is first
pub number_first : (line rest ds : List ℕ) (n : ℕ) → lexemes_of line ≡ Digits ds ∷ lexemes_of rest → n ≡ min (number_of ds) 100000 → n ≤ 63999 → HasBasicNumber line n
number_first line rest ds n h is small =
    let same : number_of ds ≡ n = omega (arith, is, small) in
    (lexemes_of line, lexemes_spelled (length line) line (omega arith), ds, lexemes_of rest, h, same, small)

-- a number above the bound is none
pub number_above : (line rest ds : List ℕ) (n : ℕ) → lexemes_of line ≡ Digits ds ∷ lexemes_of rest → n ≡ min (number_of ds) 100000 → 63999 < n → (m : ℕ) → HasBasicNumber line m → ⊥
number_above line rest ds n h is large m k =
    let found : Digits k.2 ∷ k.3 ≡ Digits ds ∷ lexemes_of rest = sym k.4 ∙ sym (lexemes_found line k.0 k.1) ∙ h in
    let same : k.2 ≡ ds = cc in
    absurd (omega (arith, ap number_of same, k.5, k.6, is, large))

-- what is no number is none
pub number_none : (line : List ℕ) → ((ds : List ℕ) (rest : List Lexeme) → lexemes_of line ≡ Digits ds ∷ rest → ⊥) → (m : ℕ) → HasBasicNumber line m → ⊥
number_none line h m k = h k.2 k.3 (lexemes_found line k.0 k.1 ∙ k.4)

-- no lexeme begins with a space, or with nothing
pub no_lexeme_at : (bytes lexeme : List ℕ) → IsLexemeAt bytes lexeme → NoSpace bytes × (0 < length bytes)
no_lexeme_at bytes lexeme h =
    let f = lexeme_front h.0 lexeme h.1 h.3 in
    let P : List ℕ → Type 0 = λ v. NoSpace v in
    (subst P (sym h.2) f.1, omega (arith, f.2, ap length h.2, length-append lexeme h.1))

-- the lexeme at the front of bytes
pub lexeme_here : (bytes : List ℕ) (n : ℕ) → NoSpace bytes → 0 < length bytes → n ≡ (front bytes).1 → IsLexemeAt bytes (take n bytes)
lexeme_here [] n none some h = absurd (omega arith)
lexeme_here (b ∷ bs) n none some h = rw h ((front (b ∷ bs)).0, drop (front (b ∷ bs)).1 (b ∷ bs), sym (take-append-drop (front (b ∷ bs)).1 (b ∷ bs)), front_lexeme b bs none)

-- no space is first where the first byte is none
pub first_no_space : (bs : List ℕ) → 0 < length bs → is_space (get_or bs 0 0) ≡ false → NoSpace bs
first_no_space [] some h = absurd (omega arith)
first_no_space (b ∷ bs) some h = h

-- a lexeme of the code that is no number is none
pub not_digits : (l : code.Lexeme) (ls : List Lexeme) → ((x : Bor (List ℕ)) → l ≡ the.Digits x → ⊥) → (ds : List ℕ) (rest : List Lexeme) → seen l ∷ ls ≡ Digits ds ∷ rest → ⊥
not_digits (the.Word k) ls h ds rest e = cc
not_digits the.Remark ls h ds rest e = cc
not_digits (the.Digits x) ls h ds rest e = h x refl
not_digits (the.Quoted x) ls h ds rest e = cc
not_digits the.Comma ls h ds rest e = cc
not_digits the.Semicolon ls h ds rest e = cc
not_digits the.Colon ls h ds rest e = cc
not_digits the.OpenParen ls h ds rest e = cc
not_digits the.CloseParen ls h ds rest e = cc
not_digits the.Stray ls h ds rest e = cc

-- no number is where no lexeme does
pub nothing_first : (ls : List Lexeme) → ls ≡ [] → (ds : List ℕ) (rest : List Lexeme) → ls ≡ Digits ds ∷ rest → ⊥
nothing_first ls h ds rest e = let k : [] ≡ Digits ds ∷ rest = sym h ∙ e in cc
