-- Trusted: numbers in a text.
use Rattle.std.specs.Prelude.{ℕ, ◌+◌, ◌/◌, ◌%◌, nat_lt, drop, length, List, [], ◌∷◌, ◌++◌, codes, decimal, if◌then◌else◌}

-- a word, and then a number in decimal
abbrev pub numbered : List ℕ → ℕ → List ℕ
numbered word n = word ++ decimal n

-- the blanks before a number in a column of 12, for its number of digits; a longer number has none
abbrev pub blanks : (digits : ℕ) → List ℕ
blanks digits = drop digits (codes "            ")

-- a moment in microseconds, in decimal at the right of a column
abbrev pub moment : ℕ → List ℕ
moment time = blanks (length (decimal time)) ++ decimal time

-- a hexadecimal digit
abbrev pub hex_digit : ℕ → ℕ
hex_digit n = if nat_lt n 10 then n + 48 else n + 55

-- a byte in hexadecimal
abbrev pub hex_digits : ℕ → List ℕ
hex_digits byte = hex_digit (byte / 16) ∷ hex_digit (byte % 16) ∷ []

-- and between two blanks on each side
abbrev pub hex_column : ℕ → List ℕ
hex_column byte = codes "  $" ++ hex_digits byte ++ codes "  "
