-- The dots of the columns that draw a mark.
use Rattle.std.proofs.Common.{◌≡◌, ℕ, ◌+◌, ◌≤◌, Bool, true, false, cond, List, [], ◌∷◌, ◌++◌, length}
use Rattle.std.proofs.Common.{refl, ap, ◌∙◌, arith, append-nil}
use Rattle.std.specs.Prelude.{flat_map, nat_lt}
use Rattle.std.proofs.lemmas.Bool.Decides.{nat_tests}
use Rattle.std.proofs.lemmas.Grind.{flat_map-append}
use Rattle.pr_dots.specs.Dots.{column_dots, columns_dots}
use Rattle.pr_dots.specs.declared.character_sets.Shapes.{Shapes}
use Rattle.pr_exports.specs.Characters.{column_at, columns_at, mark_dots}

-- a column with a place of 16 bits has its dots
column_drawn : (other : Shapes) (y x column : ℕ) (t : Bool) → nat_lt x 65536 ≡ t → x + 1 ≤ 65536
    → flat_map (mark_dots other)
    (cond t (record { y = y; x = x; kind = 1; value = column; lower = 0; reverse = 0; wide = 0 } ∷ []) [])
    ≡ column_dots x y column
column_drawn other y x column true is low = append-nil (column_dots x y column ++ []) ∙ append-nil (column_dots x y column)
column_drawn other y x column false is low = absurd (grind (arith, nat_tests, is, low))

pub columns_drawn : (other : Shapes) (y x : ℕ) (columns : List ℕ) → x + length columns ≤ 65536
    → flat_map (mark_dots other) (columns_at y x columns) ≡ columns_dots x y columns
columns_drawn other y x [] low = refl
columns_drawn other y x (column ∷ columns) low =
    let rest : x + 1 + length columns ≤ 65536 = grind (arith, low) in
    let here : x + 1 ≤ 65536 = grind (arith, low) in
    flat_map-append (mark_dots other) (column_at y x column) (columns_at y (x + 1) columns)
    ∙ ap (λ l. l ++ flat_map (mark_dots other) (columns_at y (x + 1) columns))
    (column_drawn other y x column (nat_lt x 65536) refl here)
    ∙ ap (λ l. column_dots x y column ++ l) (columns_drawn other y (x + 1) columns rest)
