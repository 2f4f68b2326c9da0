-- Trusted: the dots of a paper.
use Rattle.std.specs.Prelude.{ℕ, ◌+◌, ◌-◌, ◌*◌, ◌/◌, ◌%◌, ◌^◌, Bool, List, [], ◌∷◌, ◌++◌, ◌==◌, ◌&&◌, flat_map, replicate, if◌then◌else◌}
use Rattle.std.specs.List.{list_any}
use Rattle.pr_page.specs.declared.paper.Row.{Row}
use Rattle.pr_page.specs.declared.paper.Paper.{Paper}
use Rattle.pr_page.specs.declared.paper.Mark.{Mark}
use Rattle.pr_page.specs.declared.paper.Mark.TheVariants.{Cell, Dots}
use Rattle.pr_dots.specs.Shapes.{shape}
use Rattle.pr_dots.specs.declared.character_sets.Shapes.{Shapes}

-- a dot of a paper: its dot column (1/60 inch from the left), and its distance from the top (1/126 inch)
pub record Dot : Type 0 where
  pub x : ℕ
  pub y : ℕ

-- what a column of a character prints in its cell: inverted if the cell is reversed, and twice if it is wide
abbrev pub printed_columns : (reverse wide : Bool) → ℕ → List ℕ
printed_columns reverse wide column =
    replicate (if wide then 2 else 1) (if reverse then 127 - column else column)

-- the columns of a mark in these shapes, from the left: bit 0 of each is its top dot
abbrev pub columns_of : Shapes → Mark → List ℕ
columns_of shapes (Cell code lower reverse wide) = flat_map (printed_columns reverse wide) (shape shapes lower code)
columns_of shapes (Dots value) = value ∷ []

-- the dot of bit b of a column, if the bit is 1: the column is at x, its top at y, and the dot is 2b below the top
abbrev pub bit_dots : (x y value b : ℕ) → List Dot
bit_dots x y value b = if value / 2 ^ b % 2 == 1 then record { x = x; y = y + 2 * b } ∷ [] else []

-- the dots of a column
abbrev pub column_dots : (x y value : ℕ) → List Dot
column_dots x y value = flat_map (bit_dots x y value) (0 ∷ 1 ∷ 2 ∷ 3 ∷ 4 ∷ 5 ∷ 6 ∷ [])

-- the dots of columns side by side, the first of them at x
abbrev pub columns_dots : (x y : ℕ) → List ℕ → List Dot
columns_dots x y [] = []
columns_dots x y (value ∷ values) = column_dots x y value ++ columns_dots (x + 1) y values

-- the dots of a printed line
abbrev pub row_dots : Shapes → Row → List Dot
row_dots shapes r = flat_map (λ p. columns_dots p.x r.y (columns_of shapes p.mark)) r.marks

-- the dots of a paper in these shapes, row by row and mark by mark; held marks have no place yet
unfoldable pub dots_of : Shapes → Paper → List Dot
dots_of shapes paper = flat_map (row_dots shapes) paper.rows

-- a dot is at (x, y)
abbrev pub is_at : (x y : ℕ) → Dot → Bool
is_at x y dot = dot.x == x && dot.y == y

-- whether a paper has a dot at (x, y)
unfoldable pub has_dot : Shapes → Paper → (x y : ℕ) → Bool
has_dot shapes paper x y = list_any (is_at x y) (dots_of shapes paper)
