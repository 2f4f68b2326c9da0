-- Trusted: what is on a sheet of 11 inches. A unit is 1/2520 inch.
use Rattle.std.specs.Prelude.{ℕ, ◌+◌, ◌-◌, ◌*◌, Bool, List, [], ◌∷◌, ◌++◌, ◌==◌, ◌&&◌, codes, decimal, filter, flat_map, map, if◌then◌else◌}
use Rattle.pr_page.specs.declared.paper.Placed.{Placed}
use Rattle.pr_page.specs.declared.paper.Row.{Row}
use Rattle.pr_dots.specs.Sheets.{is_on, sheet_count}
use Rattle.pr_pdf.specs.Fonts.{code_of, font_columns, font_name, font_of}
use Rattle.pr_pdf.specs.Parts.{run_codes, run_end, run_place, sheet_begin, sheet_end}
use Rattle.pr_pdf.specs.Words.{hex_2, numbers_from}

-- a run: marks side by side of one font, from a dot column on, as a string of their codes
pub record Run : Type 0 where
  pub x : ℕ
  pub font : ℕ
  pub string : List ℕ

-- where a mark ends, in dot columns
abbrev pub end_of : Placed → ℕ
end_of placed = placed.x + font_columns (font_of placed.mark)

-- a run goes on where a mark ends, in the mark's font
abbrev pub goes_on : Placed → Run → Bool
goes_on placed run = font_of placed.mark == run.font && end_of placed == run.x

-- the codes that a mark's run has from the first run of the marks after it
abbrev pub codes_taken : Placed → List Run → List ℕ
codes_taken placed [] = []
codes_taken placed (run ∷ runs) = if goes_on placed run then run.string else []

-- the runs that stay
abbrev pub runs_left : Placed → List Run → List Run
runs_left placed [] = []
runs_left placed (run ∷ runs) = if goes_on placed run then runs else run ∷ runs

-- a mark in front of the runs of the marks after it
abbrev pub joined : Placed → List Run → List Run
joined placed runs =
    record { x = placed.x; font = font_of placed.mark; string = code_of placed.mark ∷ codes_taken placed runs }
    ∷ runs_left placed runs

-- the runs of marks
abbrev pub runs_of : List Placed → List Run
runs_of [] = []
runs_of (placed ∷ marks) = joined placed (runs_of marks)

-- a run begins: its font, and where the base line of its first glyph begins
unfoldable pub run_begin : (height font x : ℕ) → List ℕ
run_begin height font x =
    codes "/" ++ font_name font ++ run_place ++ decimal (42 * x) ++ codes " " ++ decimal height ++ run_codes

-- a run on a base line at a height, as a string of its codes
abbrev pub run_pdf : ℕ → Run → List ℕ
run_pdf height run = run_begin height run.font run.x ++ flat_map hex_2 run.string ++ run_end

-- how high the base line of a row is on a sheet, above a place 14/126 inch below the sheet's lower edge.
-- Sheets are counted from 0
abbrev pub height_on : (sheet y : ℕ) → ℕ
height_on sheet y = 20 * (1386 * (sheet + 1) + 1 - y)

-- the runs of a row
abbrev pub row_pdf : ℕ → Row → List ℕ
row_pdf sheet row = flat_map (run_pdf (height_on sheet row.y)) (runs_of row.marks)

-- what a sheet draws
unfoldable pub sheet_pdf : List Row → ℕ → List ℕ
sheet_pdf rows sheet = sheet_begin ++ flat_map (row_pdf sheet) (filter (is_on sheet) rows) ++ sheet_end

-- what each of the sheets draws that rows take
abbrev pub sheet_texts : List Row → List (List ℕ)
sheet_texts rows = map (sheet_pdf rows) (numbers_from 0 (sheet_count rows))
