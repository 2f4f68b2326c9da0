-- Trusted: the elements of a list, each with the elements before it.
use Rattle.std.specs.Prelude.{List, [], ◌∷◌, ◌++◌}

-- each element of the second list with the elements before it, the first list among them
abbrev pub with_before : {X : Type 0} → List X → List X → List (List X × X)
with_before before [] = []
with_before before (x ∷ xs) = (before, x) ∷ with_before (before ++ x ∷ []) xs
