-- Trusted: what the words of a sheet draw.
-- A string of a Type 3 font draws its glyphs side by side (ISO 32000-1, 9.4), here as discs.
use Rattle.std.specs.Prelude.{ℕ, ◌+◌, ◌-◌, ◌*◌, Bool, List, [], ◌∷◌, ◌++◌, ◌==◌, ◌&&◌, filter, flat_map, map}
use Rattle.std.specs.List.{list_any}
use Rattle.pr_page.specs.declared.paper.Row.{Row}
use Rattle.pr_dots.specs.Dots.{Dot}
use Rattle.pr_dots.specs.declared.character_sets.Shapes.{Shapes}
use Rattle.pr_pdf.specs.Fonts.{Disc, font_columns, glyph_discs, mark_of}
use Rattle.pr_dots.specs.Sheets.{is_on}
use Rattle.pr_pdf.specs.Sheets.{Run, height_on, runs_of}

-- a disc so far to the right and so far up
abbrev pub moved : (across up : ℕ) → Disc → Disc
moved across up disc = record { across = across + disc.across; up = up + disc.up }

-- what a string of a font draws from a place on: each glyph, and the next one after it
abbrev pub string_discs : Shapes → (across up font : ℕ) → List ℕ → List Disc
string_discs shapes across up font [] = []
string_discs shapes across up font (code ∷ codes) =
    map (moved across up) (glyph_discs shapes (mark_of font code))
    ++ string_discs shapes (across + 42 * font_columns font) up font codes

-- what a run draws at a height
abbrev pub run_discs : Shapes → ℕ → Run → List Disc
run_discs shapes height run = string_discs shapes (42 * run.x) height run.font run.string

-- what a row draws on a sheet
abbrev pub row_discs : Shapes → ℕ → Row → List Disc
row_discs shapes sheet row = flat_map (run_discs shapes (height_on sheet row.y)) (runs_of row.marks)

-- what a sheet draws
abbrev pub sheet_discs : Shapes → List Row → ℕ → List Disc
sheet_discs shapes rows sheet = flat_map (row_discs shapes sheet) (filter (is_on sheet) rows)

-- a disc is another
abbrev pub is_disc : Disc → Disc → Bool
is_disc a b = a.across == b.across && a.up == b.up

-- the disc of a dot on a sheet: in the middle of its dot column, 1/126 inch below its top
abbrev pub disc_on : ℕ → Dot → Disc
disc_on sheet dot = record { across = 42 * dot.x + 21; up = 20 * (1386 * (sheet + 1) + 13 - dot.y) }

-- whether there is a disc for a dot at (x, y)
abbrev pub has_disc : (sheet x y : ℕ) → List Disc → Bool
has_disc sheet x y discs = list_any (is_disc (disc_on sheet (record { x = x; y = y }))) discs
