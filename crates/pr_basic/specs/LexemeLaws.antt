-- Laws: what follows from the definition of lexemes. `lexemes_are_found` proves them.
use Rattle.std.specs.Prelude.{◌≡◌, ℕ, List}
use Rattle.pr_basic.specs.Lexemes.{AreLexemes, Lexeme}
use Rattle.pr_basic.specs.Lexing.{lexemes_of}

-- a line has lexemes: those that the reader finds
abbrev pub LinesHaveLexemes : Type 0
LinesHaveLexemes = (line : List ℕ) → AreLexemes line (lexemes_of line)

-- a line has no others
abbrev pub LexemesAreFound : Type 0
LexemesAreFound = (line : List ℕ) (lexemes : List Lexeme) → AreLexemes line lexemes → lexemes_of line ≡ lexemes
