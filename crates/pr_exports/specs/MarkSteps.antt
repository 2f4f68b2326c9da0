-- Machine steps: rows that are made of marks one after another. No reader needs to believe them.
use Rattle.std.specs.Prelude.{ℕ, ◌==◌, List, [], ◌∷◌, ◌++◌, if◌then◌else◌}
use Rattle.pr_page.specs.declared.paper.Placed.{Placed}
use Rattle.pr_page.specs.declared.paper.Row.{Row}
use Rattle.pr_exports.specs.Marks.{mark_by}
use Rattle.pr_exports.specs.declared.marks.WireMark.{WireMark}

-- a mark in its row
abbrev pub placed_by : WireMark → Placed
placed_by w = record { x = w.x; mark = mark_by w }

-- the row at y of these marks, if there are any
abbrev pub row_of : ℕ → List Placed → List Row
row_of y [] = []
row_of y (p ∷ ps) = record { y = y; marks = p ∷ ps } ∷ []

-- the rows of marks, of which the first follow others in a row at y
abbrev pub rows_after : (y : ℕ) → List Placed → List WireMark → List Row
rows_after y placed [] = row_of y placed
rows_after y placed (w ∷ ws) =
    if w.y == y then rows_after y (placed ++ placed_by w ∷ []) ws
    else row_of y placed ++ rows_after w.y (placed_by w ∷ []) ws
