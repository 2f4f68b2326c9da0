-- Trusted: the rows of a text.
use Rattle.std.specs.Prelude.{ℕ, ◌+◌, ◌==◌, ◌&&◌, ◌||◌, Bool, false, not, List, [], ◌∷◌, take, if◌then◌else◌}

-- a row ends at byte 13, and at byte 10 that is not directly after one
abbrev pub row_end : (after_return : Bool) → ℕ → ℕ
row_end after_return b = if b == 13 || (b == 10 && not after_return) then 1 else 0

-- how many rows end in a text
unfoldable pub row_ends : (after_return : Bool) → List ℕ → ℕ
row_ends after_return [] = 0
row_ends after_return (b ∷ bs) = row_end after_return b + row_ends (b == 13) bs

-- the row of a place, the number of bytes before it: rows count from 1
abbrev pub row : List ℕ → ℕ → ℕ
row text place = row_ends false (take place text) + 1
