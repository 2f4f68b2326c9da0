-- Trusted: the lines of a text.
use Rattle.std.specs.Prelude.{ℕ, ◌==◌, List, [], ◌∷◌, if◌then◌else◌}

-- puts one more element in front of the first of some lists
abbrev pub onto_first : {A : Type 0} → A → List (List A) → List (List A)
onto_first x [] = (x ∷ []) ∷ []
onto_first x (xs ∷ more) = (x ∷ xs) ∷ more

-- the lines of a text, without their ends: byte 10 ends a line, and so does the end of the text;
-- after a last byte 10 there is no further line
unfoldable pub lines_of : List ℕ → List (List ℕ)
lines_of [] = []
lines_of (b ∷ bs) = if b == 10 then [] ∷ lines_of bs else onto_first b (lines_of bs)
