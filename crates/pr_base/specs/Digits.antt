-- Trusted: decimal digits, and the number that they spell.
use Rattle.std.specs.Prelude.{ℕ, ◌+◌, ◌-◌, ◌*◌, ◌&&◌, Bool, List, [], ◌∷◌, nat_le}

-- a decimal digit: bytes 48 to 57
abbrev pub is_digit : ℕ → Bool
is_digit b = nat_le 48 b && nat_le b 57

-- the number that digits spell, after digits that spell n
abbrev pub number_after : ℕ → List ℕ → ℕ
number_after n [] = n
number_after n (d ∷ ds) = number_after (10 * n + (d - 48)) ds

-- the number that digits spell
abbrev pub number_of : List ℕ → ℕ
number_of ds = number_after 0 ds
