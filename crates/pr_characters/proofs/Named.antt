-- A line in two parts.
use Rattle.std.proofs.Common.{◌≡◌, ℕ, List, [], ◌∷◌, ◌++◌, length, take, drop, refl, arith}
use Rattle.std.specs.Prelude.{◌&&◌}
use Rattle.std.specs.Str.{bytes_eq}
use Rattle.std.proofs.lemmas.Grind.{common_steps}

-- a line is two texts, one after the other, where its front is the first and the rest is the second
pub in_parts : (line set digits : List ℕ) → bytes_eq line (set ++ digits) ≡ (bytes_eq (take (length set) line) set && bytes_eq (drop (length set) line) digits)
in_parts line [] digits = refl
in_parts [] (x ∷ set) digits = refl
in_parts (b ∷ line) (x ∷ set) digits = grind (arith, common_steps, in_parts line set digits)
