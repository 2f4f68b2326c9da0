-- Trusted: the picture of an outcome as an SVG document. A unit of the document is 1/1260 inch: a
-- dot column is 21 units wide, 1/126 inch is 10 units, and 1/6 inch 210 units (a pica, `pc`).
use Rattle.std.specs.Prelude.{ℕ, ◌+◌, ◌-◌, ◌*◌, ◌/◌, Bool, true, false, not, List, [], ◌∷◌, ◌++◌, ◌==◌, ◌||◌, ◌&&◌, nat_le, nat_lt, codes, decimal, flat_map, length, map, if◌then◌else◌, Option, Some, None}
use Rattle.std.specs.List.{filter, list_all}
use Rattle.pr_page.specs.declared.paper.Placed.{Placed}
use Rattle.pr_page.specs.declared.paper.Row.{Row}
use Rattle.pr_page.specs.declared.paper.Paper.{Paper}
use Rattle.pr_page.specs.declared.paper.Mark.{Mark}
use Rattle.pr_page.specs.declared.paper.Mark.TheVariants.{Cell, Dots}
use Rattle.pr_serial.specs.declared.Present.{Present}
use Rattle.pr_channels.specs.declared.faults.Stop.{Stop}
use Rattle.pr_system.specs.declared.outcome.Outcome.{Outcome}
use Rattle.pr_dots.specs.Dots.{Dot, columns_dots, columns_of}
use Rattle.pr_dots.specs.declared.character_sets.Shapes.{Shapes}
use Rattle.pr_render.specs.Characters.{character}
use Rattle.pr_render.specs.Words.{either_text, is_blank, stop_name, text_if}
use Rattle.pr_render.specs.Parts.{definitions_begin, definitions_end, desk, document_about, document_begin, held_begin, held_note, ink_begin, letters_fitted, letters_width, mark_begin, mark_path, notes_begin, paper_folds, paper_piece, row_begin, sheet_begin, sheet_end, sheet_marks, sheet_name, sheet_paper, status_begin, stop_begin, text_end, units_begin, use_begin, use_end, use_place}

-- a disc of a picture: its middle, in units from the left and from the top
pub record Disc : Type 0 where
  pub across : ℕ
  pub down : ℕ

-- the disc of a dot
abbrev pub disc_of : Dot → Disc
disc_of dot = record { across = 21 * dot.x + 10; down = 10 * dot.y + 10 }

-- a disc as a part of a path: a stroke without length, whose ends are round
unfoldable pub disc_svg : Disc → List ℕ
disc_svg disc = codes "M" ++ decimal disc.across ++ codes " " ++ decimal disc.down ++ codes "h0"

-- a mark's name: `d` and the value of a column of dots; for a cell `u` (graphic/upper case) or `l`
-- (lower/upper case), `r` if it is reversed, `w` if it is wide, and its code
unfoldable pub name_svg : Mark → List ℕ
name_svg (Cell code lower reverse wide) =
    either_text lower (codes "l") (codes "u") ++ text_if reverse (codes "r") ++ text_if wide (codes "w") ++ decimal code
name_svg (Dots value) = codes "d" ++ decimal value

-- the discs of a mark in these shapes, as its definition has them
abbrev pub mark_discs : Shapes → Mark → List Disc
mark_discs shapes mark = map disc_of (columns_dots 0 0 (columns_of shapes mark))

-- a mark's definition, under its name
unfoldable pub definition_svg : Shapes → Mark → List ℕ
definition_svg shapes mark =
    mark_begin ++ name_svg mark ++ mark_path ++ flat_map disc_svg (mark_discs shapes mark) ++ use_end

-- a number for each mark, and no two have the same
abbrev pub number_of : Mark → ℕ
number_of (Cell code lower reverse wide) =
    9 * code + (if lower then 1 else 0) + (if reverse then 2 else 0) + (if wide then 4 else 0)
number_of (Dots value) = 9 * value + 8

-- two marks are different
abbrev pub differ : Mark → Mark → Bool
differ this other = not (number_of this == number_of other)

-- marks, each once
abbrev pub each_once : List Mark → List Mark
each_once [] = []
each_once (m ∷ ms) = m ∷ filter (differ m) (each_once ms)

-- the marks of a paper, with the held marks at the end
abbrev pub marks_of : Paper → List Mark
marks_of paper = map (λ p. p.mark) (flat_map (λ r. r.marks) paper.rows ++ paper.held)

-- a mark on its line, by its name
unfoldable pub use_svg : Placed → List ℕ
use_svg placed = use_begin ++ name_svg placed.mark ++ use_place ++ decimal (21 * placed.x) ++ use_end

-- a character that SVG has as itself: ASCII from the space on, except quote, ampersand, apostrophe, less and greater
abbrev pub stands_for_itself : ℕ → Bool
stands_for_itself u =
    if (u == 34 || u == 38 || u == 39 || u == 60 || u == 62) then false
    else (nat_le 32 u && nat_le u 126)

-- a character: as itself, or else by its number
unfoldable pub escaped : ℕ → List ℕ
escaped u = if stands_for_itself u then u ∷ [] else codes "&#" ++ decimal u ++ codes ";"

-- a character in its cell: a blank is a space
abbrev pub character_text : ℕ → List ℕ
character_text u = if is_blank u then 32 ∷ [] else escaped u

-- the width of a number of cells, in dots
abbrev pub cells_width : Bool → ℕ → ℕ
cells_width wide count = if wide then 12 * count else 6 * count

-- a strip: the characters of cells side by side, from a dot column on, all wide or none
pub record Strip : Type 0 where
  pub x : ℕ
  pub wide : Bool
  pub characters : List ℕ

-- a strip without cells
abbrev pub no_strip : Strip
no_strip = record { x = 0; wide = false; characters = [] }

-- the strip of one cell; a column of dots has none
abbrev pub strip_of : ℕ → Mark → Strip
strip_of x (Cell code lower reverse wide) = record { x = x; wide = wide; characters = character lower code ∷ [] }
strip_of x (Dots value) = no_strip

-- a strip with another one after it
abbrev pub lengthened : Strip → Strip → Strip
lengthened strip next = record { x = strip.x; wide = strip.wide; characters = strip.characters ++ next.characters }

-- both are true, or both are false
abbrev pub same : Bool → Bool → Bool
same this other = if this then other else not other

-- there are cells
abbrev pub has_cells : List ℕ → Bool
has_cells [] = false
has_cells (u ∷ us) = true

-- a strip joins another: it begins where the other ends, and is as wide
abbrev pub joins : Strip → Strip → Bool
joins next strip =
    has_cells next.characters && has_cells strip.characters && same strip.wide next.wide
    && next.x == strip.x + cells_width strip.wide (length strip.characters)

-- one of these characters is no blank
abbrev pub shows : List ℕ → Bool
shows [] = false
shows (u ∷ us) = not (is_blank u) || shows us

-- the characters of a strip, as wide as its cells
unfoldable pub characters_svg : Strip → List ℕ
characters_svg strip =
    codes "<text x=\"" ++ decimal (21 * strip.x) ++ letters_width ++ decimal (21 * cells_width strip.wide (length strip.characters))
    ++ letters_fitted ++ flat_map character_text strip.characters ++ text_end

-- the same, unless all characters are blank
abbrev pub strip_svg : Strip → List ℕ
strip_svg strip = text_if (shows strip.characters) (characters_svg strip)

-- the strips of marks in order, after one that has begun
abbrev pub strips_svg : Strip → List Placed → List ℕ
strips_svg strip [] = strip_svg strip
strips_svg strip (p ∷ ps) =
    if joins (strip_of p.x p.mark) strip then strips_svg (lengthened strip (strip_of p.x p.mark)) ps
    else strip_svg strip ++ strips_svg (strip_of p.x p.mark) ps

-- the marks of a line: each by its name, and over them its letters, invisible, for search and copying
unfoldable pub line_svg : List Placed → List ℕ
line_svg marks = flat_map use_svg marks ++ strips_svg no_strip marks

-- a printed line, at its distance
unfoldable pub row_svg : Row → List ℕ
row_svg r = row_begin ++ decimal (10 * r.y) ++ codes ")\">\n" ++ line_svg r.marks ++ codes "</g>\n"

-- where rows end, in 1/126 inch: 1/6 inch below the top of the last one
abbrev pub rows_end : ℕ → List Row → ℕ
rows_end y [] = y
rows_end y (r ∷ rs) = rows_end (r.y + 21) rs

-- the held marks, pale, at a distance
unfoldable pub held_svg : ℕ → List Placed → List ℕ
held_svg y [] = []
held_svg y (m ∷ ms) = held_begin ++ decimal (10 * y) ++ codes ")\">\n" ++ line_svg (m ∷ ms) ++ codes "</g>\n"

-- above the held marks: a rule, and a line that says what they are
unfoldable pub held_line : ℕ → List Placed → List ℕ
held_line y [] = []
held_line y (m ∷ ms) = row_begin ++ decimal (10 * y) ++ held_note

-- where a paper's marks end, in 1/126 inch
abbrev pub paper_end : Paper → ℕ
paper_end p = rows_end 0 p.rows + held_room p.held
  where
    held_room : List Placed → ℕ
    held_room [] = 0
    held_room (m ∷ ms) = 42

-- the length of a sheet in picas: the lines above the first row, its paper and half an inch below it, in whole half inches
abbrev pub sheet_picas : (top : ℕ) → Paper → ℕ
sheet_picas top p = 3 * ((paper_end p + 21 * top + 125) / 63)

-- how much of the document's height a sheet takes if it is drawn, in picas: 5 above it, where the printer's name is, and its length
abbrev pub sheet_room : Bool → (top : ℕ) → Paper → ℕ
sheet_room drawn top p = if drawn then 5 + sheet_picas top p else 0

-- where a sheet begins that has so many picas of others above it, and above it the printer's name
unfoldable pub name_line : (device above : ℕ) → List ℕ
name_line device above = sheet_begin ++ decimal (210 * (above + 5)) ++ sheet_name ++ decimal device

-- how far the marks of a sheet begin below the upper edge of the paper, in units: these lines of 1/6 inch
abbrev pub marks_down : (top : ℕ) → ℕ
marks_down top = 210 * top

-- where the marks of a sheet begin
unfoldable pub marks_place : (top : ℕ) → List ℕ
marks_place top = sheet_marks ++ decimal (marks_down top) ++ codes ")\">\n"

-- paper of this length in picas, with folds every 11 inches from its upper edge on
unfoldable pub paper_svg : (top picas : ℕ) → List ℕ
paper_svg top picas = sheet_paper ++ decimal (210 * picas) ++ paper_folds ++ decimal (210 * (picas - 6)) ++ marks_place top

-- the marks of a paper: the rows, and 1/6 inch below them the held marks
unfoldable pub ink_svg : Paper → List ℕ
ink_svg p = ink_begin ++ flat_map row_svg p.rows ++ held_svg (rows_end 0 p.rows + 21) p.held ++ codes "</g>\n"

-- a printer's sheet, below others
unfoldable pub sheet_svg : (top device above : ℕ) → Paper → List ℕ
sheet_svg top device above p =
    name_line device above ++ paper_svg top (sheet_picas top p) ++ ink_svg p ++ held_line (rows_end 0 p.rows) p.held ++ sheet_end

-- the line of a stop, with its place
unfoldable pub stop_svg : Option (ℕ × Stop) → List ℕ
stop_svg None = []
stop_svg (Some stop) = stop_begin ++ stop_name stop.1 ++ codes " in statement " ++ decimal stop.0 ++ codes "</tspan>\n"

-- the length of a stop in picas
abbrev pub stop_picas : Option (ℕ × Stop) → ℕ
stop_picas None = 0
stop_picas (Some stop) = 1

-- the status of a statement, after a comma or not
unfoldable pub place_text : Bool → ℕ → ℕ → List ℕ
place_text comma status place = text_if comma (codes ", ") ++ decimal status ++ codes " in statement " ++ decimal place

-- the statuses that are not 0, of statements from a place on; `left` is the most of them
abbrev pub places_text : (left place : ℕ) → List ℕ → List ℕ
places_text left place [] = []
places_text left place (n ∷ ns) =
    if n == 0 then places_text left (place + 1) ns
    else (if left == 0 then codes ", and more"
    else place_text (nat_lt left 4) n place ++ places_text (left - 1) (place + 1) ns)

-- the statuses are all 0
abbrev pub all_zero : List ℕ → Bool
all_zero statuses = list_all (λ n. n == 0) statuses

-- the first four places of statuses that are not 0, if there are any
unfoldable pub statuses_svg : List ℕ → List ℕ
statuses_svg statuses =
    if all_zero statuses then []
    else status_begin ++ places_text 4 1 statuses ++ codes "</tspan>\n"

-- the lines below the sheets, which take so many picas: the stop and the statuses
unfoldable pub notes_svg : ℕ → Outcome → List ℕ
notes_svg picas outcome =
    notes_begin ++ decimal (210 * (picas + 1))
    ++ codes ")\">\n" ++ stop_svg outcome.stop ++ statuses_svg outcome.statuses ++ text_end

-- something was printed, or is held
abbrev pub has_printed : Paper → Bool
has_printed p = nat_lt 0 (length p.rows + length p.held)

-- the printers that are drawn: those present that have printed, or else all that are present
abbrev pub drawn_of : Outcome → Present → Present
drawn_of outcome present =
    drawn (present.four && has_printed outcome.paper4) (present.five && has_printed outcome.paper5)
  where
    drawn : (four five : Bool) → Present
    drawn four five = if (four || five) then record { four = four; five = five } else present

-- how much the sheets of these printers take, in picas
abbrev pub sheets_picas : (top : ℕ) → Outcome → Present → ℕ
sheets_picas top outcome drawn = sheet_room drawn.four top outcome.paper4 + sheet_room drawn.five top outcome.paper5

-- the document's height in picas, with sheets that take so many
abbrev pub height_of : ℕ → Outcome → ℕ
height_of picas outcome = picas + 4 + stop_picas outcome.stop + (if all_zero outcome.statuses then 0 else 1)

-- the document's size in picas
unfoldable pub size_svg : ℕ → List ℕ
size_svg height = document_begin ++ decimal height

-- the same in units
unfoldable pub units_svg : ℕ → List ℕ
units_svg height = units_begin ++ decimal (210 * height)

-- the document's head: its size, a piece of continuous paper, and the desk under the sheets
unfoldable pub head_svg : ℕ → List ℕ
head_svg height = size_svg height ++ units_svg height ++ document_about ++ paper_piece ++ desk

-- the marks of the papers that are drawn
abbrev pub drawn_marks : Outcome → Present → List Mark
drawn_marks outcome drawn =
    (if drawn.four then marks_of outcome.paper4 else []) ++ (if drawn.five then marks_of outcome.paper5 else [])

-- each of these marks, defined once
unfoldable pub definitions_svg : Shapes → List Mark → List ℕ
definitions_svg shapes marks = definitions_begin ++ flat_map (definition_svg shapes) (each_once marks) ++ definitions_end

-- the picture with the sheets of these printers, printer 4's above printer 5's, and the lines below them; the first row of each is
-- `top` lines of 1/6 inch below the upper edge of its paper
unfoldable pub picture_svg : Shapes → (top : ℕ) → Outcome → Present → List ℕ
picture_svg shapes top outcome drawn =
    head_svg (height_of (sheets_picas top outcome drawn) outcome)
    ++ definitions_svg shapes (drawn_marks outcome drawn)
    ++ text_if drawn.four (sheet_svg top 4 0 outcome.paper4)
    ++ text_if drawn.five (sheet_svg top 5 (sheet_room drawn.four top outcome.paper4) outcome.paper5)
    ++ notes_svg (sheets_picas top outcome drawn) outcome ++ codes "</svg>\n"

-- the picture of an outcome whose marks are printed in these shapes
abbrev pub svg_of : Shapes → (top : ℕ) → Outcome → Present → List ℕ
svg_of shapes top outcome present = picture_svg shapes top outcome (drawn_of outcome present)
