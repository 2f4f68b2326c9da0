-- Trusted: what is at a place of a text: its line, the line's BASIC number, and the lexeme there.
use Rattle.std.specs.Prelude.{◌≡◌, ℕ, suc, ◌+◌, ◌≤◌, List, ◌∷◌, ◌++◌, length}
use Rattle.pr_basic.specs.Limits.{line_number_limit}
use Rattle.pr_basic.specs.Lexemes.{AreLexemes, Digits, IsLexeme, Lexeme}
use Rattle.pr_basic.specs.FaultPlaces.{size_of}
use Rattle.pr_base.specs.Digits.{number_of}
use Rattle.pr_base.specs.Lines.{lines_of}

-- the line of a text that has this place, or ends there: its bytes, its number from 1, and the
-- number of bytes before it
pub record IsLineAt (text : List ℕ) (place start : ℕ) (line : List ℕ) (number : ℕ) : Type 0 where
  pub before : List (List ℕ)
  pub after : List (List ℕ)
  pub cut : lines_of text ≡ before ++ line ∷ after
  pub numbered : number ≡ suc (length before)
  pub begins : start ≡ size_of before
  pub from : start ≤ place
  pub to : place ≤ start + length line

-- a line begins with a BASIC number of at most 63999
abbrev pub HasBasicNumber : List ℕ → ℕ → Type 0
HasBasicNumber line n = (lexemes : List Lexeme) × AreLexemes line lexemes
    × (ds : List ℕ) × (rest : List Lexeme) × (lexemes ≡ Digits ds ∷ rest) × (number_of ds ≡ n)
    × (n ≤ line_number_limit)

-- bytes of a line begin with the bytes of a lexeme
abbrev pub IsLexemeAt : List ℕ → List ℕ → Type 0
IsLexemeAt bytes lexeme = (l : Lexeme) × (after : List ℕ) × (bytes ≡ lexeme ++ after)
    × IsLexeme l lexeme after
