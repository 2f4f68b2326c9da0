-- Trusted: small words of the document.
use Rattle.std.specs.Prelude.{ℕ, zero, suc, ◌+◌, ◌/◌, ◌%◌, Bool, List, [], ◌∷◌, ◌++◌, ◌==◌, nat_lt, if◌then◌else◌}

-- this many numbers from one on
unfoldable pub numbers_from : (first count : ℕ) → List ℕ
numbers_from first zero = []
numbers_from first (suc count) = first ∷ numbers_from (first + 1) count

-- whether a number has a bit, given as 1, 2, 4 ..
abbrev pub bit : (place number : ℕ) → Bool
bit place number = number / place % 2 == 1

-- a hexadecimal digit
abbrev pub hex_digit : ℕ → ℕ
hex_digit n = if nat_lt n 10 then 48 + n else 87 + n

-- two hexadecimal digits
abbrev pub hex_2 : ℕ → List ℕ
hex_2 n = hex_digit (n / 16 % 16) ∷ hex_digit (n % 16) ∷ []

-- four hexadecimal digits
abbrev pub hex_4 : ℕ → List ℕ
hex_4 n = hex_2 (n / 256) ++ hex_2 (n % 256)
