-- Trusted: the sheets of a paper. Each is 11 inches long, 1386 of 1/126 inch, and they are counted from 0.
-- The first sheet begins at the upper edge of the paper, and the paper is put in with its first row some lines of 21/126 inch below
-- that edge: `top` of them. A paper that is lowered by these has its distances from the edge, and all else that is said of
-- sheets is said of such a paper.
use Rattle.std.specs.Prelude.{ℕ, ◌+◌, ◌*◌, ◌/◌, Bool, List, [], ◌∷◌, ◌==◌, ◌||◌, filter, map, max}
use Rattle.pr_page.specs.declared.paper.Row.{Row}
use Rattle.pr_page.specs.declared.paper.Paper.{Paper}

-- a row, its rows and a paper with the distances from the upper edge: rows keep their distances from each other
abbrev pub lowered_row : (top : ℕ) → Row → Row
lowered_row top row = record { y = row.y + 21 * top; marks = row.marks }

abbrev pub lowered_rows : (top : ℕ) → List Row → List Row
lowered_rows top rows = map (lowered_row top) rows

abbrev pub lowered : (top : ℕ) → Paper → Paper
lowered top paper = record { rows = lowered_rows top paper.rows; held = paper.held }

-- the sheets on which a row begins and ends: its dots reach 14/126 inch down
abbrev pub first_sheet : Row → ℕ
first_sheet row = row.y / 1386

abbrev pub last_sheet : Row → ℕ
last_sheet row = (row.y + 13) / 1386

-- a row is on a sheet: one that straddles a fold is on both
abbrev pub is_on : ℕ → Row → Bool
is_on sheet row = first_sheet row == sheet || last_sheet row == sheet

-- how many sheets rows take
abbrev pub sheet_count : List Row → ℕ
sheet_count [] = 0
sheet_count (row ∷ rows) = max (last_sheet row + 1) (sheet_count rows)

-- how many sheets a paper has: one without rows has one, and it is empty
abbrev pub sheets_of : Paper → ℕ
sheets_of paper = max 1 (sheet_count paper.rows)

-- how many whole lines of 21/126 inch rows take, from the upper edge of the paper to 21/126 inch below the top of the lowest row
abbrev pub line_count : List Row → ℕ
line_count [] = 0
line_count (row ∷ rows) = max ((row.y + 41) / 21) (line_count rows)

-- how many lines a paper has down to there: one without rows has one, and it is empty
abbrev pub lines_of : Paper → ℕ
lines_of paper = max 1 (line_count paper.rows)

-- the rows that are on a sheet
abbrev pub rows_on : ℕ → List Row → List Row
rows_on sheet rows = filter (is_on sheet) rows
