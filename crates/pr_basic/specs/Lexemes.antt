-- Trusted: the lexemes of a line, and how the line's bytes spell them.
use Rattle.std.specs.Prelude.{◌≡◌, ⊤, ◌≢◌, IsTrue, ℕ, ◌<◌, ◌⊎◌, ◌||◌, ◌==◌, not, Bool, false, List, [], ◌∷◌, ◌++◌, length, map, codes}
use Rattle.std.specs.List.{list_all}
use Rattle.std.specs.Char.{to_ascii_lowercase}
use Rattle.pr_base.specs.Digits.{is_digit}
use Rattle.pr_basic.specs.declared.lexemes.Keyword.{Keyword}
use Rattle.pr_basic.specs.declared.lexemes.Keyword.TheVariants.{Open, Close, Cmd, PrintTo, Print, Chr}

-- a lexeme: a keyword, a REM with the rest of its line, the digits of a number, the bytes of a
-- string, a sign, or a byte that begins none of these (`Stray`), so that a line has its lexemes
-- whether or not it is a script
pub data Lexeme : Type 0 where
  Word : Keyword → Lexeme
  Remark : Lexeme
  Digits : List ℕ → Lexeme
  Quoted : List ℕ → Lexeme
  Comma : Lexeme
  Semicolon : Lexeme
  Colon : Lexeme
  OpenParen : Lexeme
  CloseParen : Lexeme
  Stray : Lexeme

-- byte 32 or 9
abbrev pub is_space : ℕ → Bool
is_space b = (b == 32) || (b == 9)

-- any byte but 34
abbrev pub is_no_quote : ℕ → Bool
is_no_quote b = not (b == 34)

-- the letters of a keyword
abbrev pub letters_of : Keyword → List ℕ
letters_of Open = codes "open"
letters_of Close = codes "close"
letters_of Cmd = codes "cmd"
letters_of PrintTo = codes "print#"
letters_of Print = codes "print"
letters_of Chr = codes "chr$"

-- a word in either case
abbrev pub IsWord : List ℕ → List ℕ → Type 0
IsWord letters bytes = map to_ascii_lowercase bytes ≡ letters

-- the first byte is no digit
abbrev pub NoDigit : List ℕ → Type 0
NoDigit [] = ⊤
NoDigit (b ∷ bs) = is_digit b ≡ false

-- the first byte is no `#`
abbrev pub NoHash : List ℕ → Type 0
NoHash [] = ⊤
NoHash (b ∷ bs) = b ≢ 35

-- the first byte is no space
abbrev pub NoSpace : List ℕ → Type 0
NoSpace [] = ⊤
NoSpace (b ∷ bs) = is_space b ≡ false

-- `bytes` spell a lexeme, and `after` are the line's bytes after them: no `#` follows PRINT, no
-- digit follows a number's digits, a string ends with its quote or with the line, a remark with the
-- line
abbrev pub Spells : Lexeme → List ℕ → List ℕ → Type 0
Spells (Word Print) bytes after = IsWord (letters_of Print) bytes × NoHash after
Spells (Word k) bytes after = IsWord (letters_of k) bytes
Spells Remark bytes after = (word : List ℕ) × (rest : List ℕ) × (bytes ≡ word ++ rest)
    × IsWord (codes "rem") word × (after ≡ [])
Spells (Digits ds) bytes after = (bytes ≡ ds) × (0 < length ds) × IsTrue (list_all is_digit ds)
    × NoDigit after
Spells (Quoted s) bytes after = IsTrue (list_all is_no_quote s)
    × ((bytes ≡ 34 ∷ s ++ 34 ∷ []) ⊎ ((bytes ≡ 34 ∷ s) × (after ≡ [])))
Spells Comma bytes after = bytes ≡ 44 ∷ []
Spells Semicolon bytes after = bytes ≡ 59 ∷ []
Spells Colon bytes after = bytes ≡ 58 ∷ []
Spells OpenParen bytes after = bytes ≡ 40 ∷ []
Spells CloseParen bytes after = bytes ≡ 41 ∷ []
Spells Stray bytes after = ⊥

-- one byte that is no space, and where no lexeme is spelled
abbrev pub IsStray : List ℕ → List ℕ → Type 0
IsStray bytes after = (b : ℕ) × (bytes ≡ b ∷ []) × (is_space b ≡ false)
    × ((l : Lexeme) (front rest : List ℕ) → front ++ rest ≡ b ∷ after → ¬ Spells l front rest)

-- bytes are a lexeme: they spell it, or they are a stray byte
abbrev pub IsLexeme : Lexeme → List ℕ → List ℕ → Type 0
IsLexeme l bytes after = Spells l bytes after ⊎ ((l ≡ Stray) × IsStray bytes after)

-- a line's bytes are these lexemes, with or without spaces around them
abbrev pub AreLexemes : List ℕ → List Lexeme → Type 0
AreLexemes line [] = IsTrue (list_all is_space line)
AreLexemes line (l ∷ ls) = (spaces : List ℕ) × (bytes : List ℕ) × (after : List ℕ)
    × (line ≡ spaces ++ (bytes ++ after)) × IsTrue (list_all is_space spaces)
    × IsLexeme l bytes after × AreLexemes after ls
