-- Trusted: characters as numbers, and the columns of dots that draw a mark in them.
use Rattle.std.specs.Prelude.{◌≡◌, ℕ, ◌+◌, ◌≤◌, List, [], ◌∷◌, ◌++◌, flat_map, length, nat_lt}
use Rattle.std.specs.Prelude.{if◌then◌else◌, Result, Ok, Err}
use Rattle.pr_cli.specs.declared.statuses.End.TheVariants.{Characters}
use Rattle.pr_jobs.specs.declared.characters.ShapesFault.TheVariants as shapes
use Rattle.pr_characters.specs.declared.fault.CharactersFault.{CharactersFault}
use Rattle.pr_dots.specs.Dots.{Dot, columns_dots, columns_of}
use Rattle.pr_dots.specs.declared.character_sets.Shapes.{Shapes}
use Rattle.pr_exports.specs.Answers.{ended, plain}
use Rattle.pr_exports.specs.Marks.{mark_by}
use Rattle.pr_exports.specs.declared.answer.Answer.{Answer}
use Rattle.pr_exports.specs.declared.characters.WireShapes.{WireShapes}
use Rattle.pr_exports.specs.declared.marks.WireMark.{WireMark}

-- the shapes that numbers mean, and the numbers of shapes
abbrev pub shapes_by : WireShapes → Shapes
shapes_by w = record { upper = w.upper; lower = w.lower }

abbrev pub shapes_numbers : Shapes → WireShapes
shapes_numbers s = record { upper = s.upper; lower = s.lower }

-- a column of dots as numbers, where its place is one of 16 bits
abbrev pub column_at : (y x column : ℕ) → List WireMark
column_at y x column =
    if nat_lt x 65536
    then record { y = y; x = x; kind = 1; value = column; lower = 0; reverse = 0; wide = 0 } ∷ []
    else []

-- columns side by side from x on
abbrev pub columns_at : (y x : ℕ) → List ℕ → List WireMark
columns_at y x [] = []
columns_at y x (column ∷ columns) = column_at y x column ++ columns_at y (x + 1) columns

-- the columns that draw a mark in these shapes
abbrev pub drawn_by : Shapes → WireMark → List WireMark
drawn_by shapes w = columns_at w.y w.x (columns_of shapes (mark_by w))

-- the dots of a mark in these shapes
abbrev pub mark_dots : Shapes → WireMark → List Dot
mark_dots shapes w = columns_dots w.x w.y (columns_of shapes (mark_by w))

-- a law: the columns that draw a mark have its dots, in whatever shapes they are drawn, where each has a place of 16
-- bits
abbrev pub ColumnsDrawTheirMark : Type 0
ColumnsDrawTheirMark =
    (shapes other : Shapes) (w : WireMark) → w.x + length (columns_of shapes (mark_by w)) ≤ 65536
    → flat_map (mark_dots other) (drawn_by shapes w) ≡ mark_dots shapes w

-- the numbers of the shapes that are asked for, or the first bad line of their file with the numbers as they were
abbrev pub TellsShapes : Result Shapes CharactersFault → (old new : WireShapes) → Answer → Type 0
TellsShapes (Ok asked) old new answer = (new ≡ shapes_numbers asked) × (answer ≡ plain 0 0)
TellsShapes (Err fault) old new answer = (new ≡ old) × (answer ≡ ended (Characters (shapes.Characters fault)))
