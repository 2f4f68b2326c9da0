-- Trusted: the words of a text, each with its line.
use Rattle.std.specs.Prelude.{ℕ, ◌+◌, ◌==◌, ◌&&◌, ◌||◌, Bool, List, [], ◌∷◌, ◌++◌, nat_le, if◌then◌else◌}

-- white space: a space, and the bytes from tab to carriage return
abbrev pub is_space : ℕ → Bool
is_space b = b == 32 || (nat_le 9 b && nat_le b 13)

-- a word, and its line, counted from 1
pub record Word : Type 0 where
  pub line : ℕ
  pub letters : List ℕ

-- a word of these letters, if there are any
abbrev pub word_of : (line : ℕ) → (letters : List ℕ) → List Word
word_of line [] = []
word_of line (b ∷ bs) = record { line = line; letters = b ∷ bs } ∷ []

-- the line after a byte
abbrev pub line_behind : (line : ℕ) → ℕ → ℕ
line_behind line b = if b == 10 then line + 1 else line

-- the words of a text that goes on after the first letters of a word
abbrev pub words_behind : (line : ℕ) → (letters : List ℕ) → (text : List ℕ) → List Word
words_behind line letters [] = word_of line letters
words_behind line letters (b ∷ bs) =
    if is_space b then word_of line letters ++ words_behind (line_behind line b) [] bs
    else words_behind line (letters ++ b ∷ []) bs

-- the words of a text, separated by white space
abbrev pub words_of : List ℕ → List Word
words_of text = words_behind 1 [] text

-- the line on which a text ends whose rest this is
abbrev pub end_line : (line : ℕ) → List ℕ → ℕ
end_line line [] = line
end_line line (b ∷ bs) = end_line (line_behind line b) bs
