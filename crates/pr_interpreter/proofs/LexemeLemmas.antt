use Rattle.std.proofs.Common.{◌≡◌, ℕ, zero, suc, ◌+◌, ◌-◌, ◌<◌, ◌≤◌, List, [], ◌∷◌, ◌++◌, length, drop, get_or, arith}
use Rattle.std.proofs.Common.{sym, refl, ap, ◌∙◌, append_assoc, append-nil}
use Rattle.std.proofs.lemmas.List.{drop-drop, drop_all}
use Rattle.pr_interpreter.specs.Lexemes.{lexemes, word_at}
use Rattle.pr_interpreter.specs.declared.lexemes.Lexeme.{Lexeme}
use Rattle.pr_interpreter.specs.declared.lexemes.Word.{Word}
use Rattle.pr_interpreter.specs.declared.symbols.Symbol.{Symbol}

pub lexemes_on : (k : ℕ) (ss : List Symbol) → lexemes k ss ≡ lexemes 0 (drop k ss)
unfolding lexemes
lexemes_on zero ss = refl
lexemes_on (suc k) [] = refl
lexemes_on (suc k) (s ∷ ss) = lexemes_on k ss

step : (s : Symbol) (ss : List Symbol) (n : ℕ) → 0 < n → lexemes (n - 1) ss ≡ lexemes 0 (drop n (s ∷ ss))
step s ss zero h = absurd (omega arith)
step s ss (suc n) h = let less : suc n - 1 ≡ n = omega arith in rw less (lexemes_on n ss)

-- the place at the front
abbrev pub first_place : List Symbol → ℕ
first_place [] = 0
first_place (s ∷ ss) = s.place

-- the lexemes of symbols are the first and those after it
pub lexemes_front : (ss : List Symbol) (word : Word) (size : ℕ) → 0 < length ss → (word, size) ≡ word_at ss → 0 < size
    → lexemes 0 ss ≡ record { word = word; place = first_place ss } ∷ lexemes 0 (drop size ss)
unfolding lexemes
lexemes_front [] word size h e some = absurd (omega arith)
lexemes_front (s ∷ ss) word size h e some =
    rw (sym e) (ap (λ (ls : List Lexeme). record { word = word; place = s.place } ∷ ls) (step s ss size some))

pub first_is : (ss : List Symbol) (d : Symbol) → 0 < length ss → (get_or ss 0 d).place ≡ first_place ss
first_is [] d h = absurd (omega arith)
first_is (s ∷ ss) d h = refl

-- the lexeme at the front of symbols is taken, and added to others
pub lexeme_taken : (ss : List Symbol) (d : Symbol) (word : Word) (size : ℕ) (old new : List Lexeme) → 0 < length ss
    → (word, size) ≡ word_at ss → 0 < size
    → new ≡ old ++ record { word = word; place = (get_or ss 0 d).place } ∷ []
    → new ++ lexemes 0 (drop size ss) ≡ old ++ lexemes 0 ss
lexeme_taken ss d word size old new h e some added =
    let rest = lexemes 0 (drop size ss) in
    let first : List Lexeme = record { word = word; place = (get_or ss 0 d).place } ∷ [] in
    ap (λ (ls : List Lexeme). ls ++ rest) added
    ∙ (append_assoc old first rest
    ∙ (ap (λ (p : ℕ). old ++ (record { word = word; place = p } ∷ rest)) (first_is ss d h)
    ∙ ap (λ (ls : List Lexeme). old ++ ls) (sym (lexemes_front ss word size h e some))))

-- a loop over symbols goes on
pub lexemes_more : (k n : ℕ) (ss : List Symbol) (old new whole : List Lexeme)
    → new ++ lexemes 0 (drop n (drop k ss)) ≡ old ++ lexemes 0 (drop k ss)
    → old ++ lexemes 0 (drop k ss) ≡ whole → new ++ lexemes 0 (drop (k + n) ss) ≡ whole
lexemes_more k n ss old new whole e all =
    ap (λ (ts : List Symbol). new ++ lexemes 0 ts) (sym (drop-drop n k ss)) ∙ (e ∙ all)

-- and ends with them
pub lexemes_all : (k : ℕ) (ss : List Symbol) (found whole : List Lexeme) → length ss ≤ k
    → found ++ lexemes 0 (drop k ss) ≡ whole → found ≡ whole
unfolding lexemes
lexemes_all k ss found whole h e =
    sym (append-nil found) ∙ (ap (λ (ts : List Symbol). found ++ lexemes 0 ts) (sym (drop_all k ss h)) ∙ e)
