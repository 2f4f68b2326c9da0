-- Laws: what a picture's elements draw, and what a line shows, said without the folds of Svg.antt and Plain.antt. src/laws.rt proves them.
use Rattle.std.specs.Prelude.{◌≡◌, ℕ, ◌+◌, ◌-◌, ◌*◌, ◌/◌, ◌^◌, ◌<◌, Bool, true, false, not, List, [], ◌∷◌, ◌++◌, ◌==◌, ◌&&◌, ◌||◌, nat_lt, flat_map, map, slice_index_or, if◌then◌else◌}
use Rattle.std.specs.List.{list_all}
use Rattle.pr_page.specs.declared.paper.Placed.{Placed}
use Rattle.pr_base.specs.Lines.{onto_first}
use Rattle.pr_page.specs.declared.paper.Paper.{Paper}
use Rattle.pr_page.specs.declared.paper.Row.{Row}
use Rattle.pr_page.specs.declared.paper.Mark.{Mark}
use Rattle.pr_page.specs.declared.paper.Mark.TheVariants.{Cell, Dots}
use Rattle.pr_serial.specs.declared.Present.{Present}
use Rattle.pr_system.specs.declared.outcome.Outcome.{Outcome}
use Rattle.pr_dots.specs.Dots.{dots_of}
use Rattle.pr_dots.specs.Sheets.{lowered, rows_on}
use Rattle.pr_dots.specs.declared.character_sets.Shapes.{Shapes}
use Rattle.pr_render.specs.Characters.{character}
use Rattle.pr_render.specs.Plain.{Sign, beside, held_text, rows_text, shown, sign_of, written}
use Rattle.pr_render.specs.Words.{is_blank}
use Rattle.pr_render.specs.declared.format.Look.{Look}
use Rattle.pr_render.specs.SheetSvg.{sheet_svg_of}
use Rattle.pr_render.specs.Svg.{Disc, disc_of, drawn_of, each_once, mark_discs, marks_down, marks_of, name_svg, row_svg, svg_of}

-- the code or the value of a mark is a byte
abbrev pub is_of_bytes : Mark → Bool
is_of_bytes (Cell code lower reverse wide) = nat_lt code 256
is_of_bytes (Dots value) = nat_lt value 256

-- two texts are the same
abbrev pub same_text : List ℕ → List ℕ → Bool
same_text [] [] = true
same_text [] (b ∷ more) = false
same_text (a ∷ rest) [] = false
same_text (a ∷ rest) (b ∷ more) = a == b && same_text rest more

-- a disc so far to the right and so far down
abbrev pub moved : (across down : ℕ) → Disc → Disc
moved across down disc = record { across = across + disc.across; down = down + disc.down }

-- what an element draws that uses a name: the discs of every definition of that name, moved
abbrev pub used_discs : Shapes → List Mark → (across down : ℕ) → List ℕ → List Disc
used_discs shapes definitions across down name =
    flat_map (λ d. if same_text (name_svg d) name then map (moved across down) (mark_discs shapes d) else []) definitions

-- what the elements of a paper's rows draw, each in its row's group
abbrev pub paper_discs : Shapes → List Mark → Paper → List Disc
paper_discs shapes definitions paper =
    flat_map (λ r. flat_map (λ p. used_discs shapes definitions (21 * p.x) (10 * r.y) (name_svg p.mark)) r.marks) paper.rows

-- where the marks of a paper are among those defined, its elements draw a disc for each dot of the paper, and no other disc
abbrev pub DiscsAreTheDots : Type 0
DiscsAreTheDots =
    (shapes : Shapes) (before : List Mark) (paper : Paper) (after : List Mark)
    → list_all is_of_bytes (before ++ (marks_of paper ++ after)) ≡ true
    → paper_discs shapes (each_once (before ++ (marks_of paper ++ after))) paper ≡ map disc_of (dots_of shapes paper)

-- and as far down as a picture has its marks below the upper edge of the paper, they are the discs of the lowered paper's dots
abbrev pub DiscsAreLowered : Type 0
DiscsAreLowered =
    (shapes : Shapes) (top : ℕ) (before : List Mark) (paper : Paper) (after : List Mark)
    → list_all is_of_bytes (before ++ (marks_of paper ++ after)) ≡ true
    → map (moved 0 (marks_down top)) (paper_discs shapes (each_once (before ++ (marks_of paper ++ after))) paper)
    ≡ map disc_of (dots_of shapes (lowered top paper))

-- different marks have different names
abbrev pub NamesTellMarks : Type 0
NamesTellMarks = (m n : Mark) → is_of_bytes m ≡ true → is_of_bytes n ≡ true → name_svg m ≡ name_svg n → m ≡ n

-- a mark at one of the 480 places of a line, and a row of such marks at a distance that a document can have
abbrev pub is_drawn : Placed → Bool
is_drawn p = is_of_bytes p.mark && nat_lt p.x 480

abbrev pub is_row : Row → Bool
is_row r = nat_lt r.y (2 ^ 60) && list_all is_drawn r.marks

-- the elements of a paper's rows determine them: the distance of each row, and the place and the mark of each
-- element, can be read back from the text
abbrev pub ElementsTellRows : Type 0
ElementsTellRows = (these those : List Row) → list_all is_row these ≡ true → list_all is_row those ≡ true
    → flat_map row_svg these ≡ flat_map row_svg those → these ≡ those

-- a paper of such rows, and of marks held at such places
abbrev pub is_paper : Paper → Bool
is_paper p = list_all is_row p.rows && list_all is_drawn p.held

-- the papers that a picture shows, each after the number of its printer
abbrev pub drawn_papers : Outcome → Present → List (ℕ × Paper)
drawn_papers outcome drawn =
    (if drawn.four then (4, outcome.paper4) ∷ [] else []) ++ (if drawn.five then (5, outcome.paper5) ∷ [] else [])

-- a picture determines its papers: where two documents are the same, in whatever shapes and with whatever lines above, the same
-- printers are drawn, with the same rows and the same marks held
abbrev pub PicturesTellPapers : Type 0
PicturesTellPapers =
    (shapes other : Shapes) (top lower : ℕ) (these those : Outcome) (present around : Present)
    → is_paper these.paper4 ≡ true → is_paper these.paper5 ≡ true → is_paper those.paper4 ≡ true → is_paper those.paper5 ≡ true
    → svg_of shapes top these present ≡ svg_of other lower those around
    → drawn_papers these (drawn_of these present) ≡ drawn_papers those (drawn_of those around)

-- the document of one sheet determines the rows that are on it
abbrev pub SheetsTellRows : Type 0
SheetsTellRows =
    (shapes other : Shapes) (this that : Paper) (sheet again : ℕ)
    → list_all is_row (rows_on sheet this.rows) ≡ true → list_all is_row (rows_on again that.rows) ≡ true
    → sheet_svg_of shapes this sheet ≡ sheet_svg_of other that again → rows_on sheet this.rows ≡ rows_on again that.rows

-- the lines of signs, each without its end
abbrev pub sign_lines : List Sign → List (List Sign)
sign_lines [] = []
sign_lines (s ∷ ss) = if s.code_point == 10 then [] ∷ sign_lines ss else onto_first s (sign_lines ss)

-- a text shows a sign at a column of a line, both counted from 0: a blank where the line is shorter
pub record ShowsAt (look : Look) (line column : ℕ) (sign : Sign) (text : List ℕ) : Type 0 where
  pub signs : List Sign
  pub spells : text ≡ written look false signs
  pub at : slice_index_or (slice_index_or (sign_lines signs) line []) column (sign_of 32) ≡ sign

-- how many lines come before that of a row this far down, on paper that is empty from a distance on: one for each row above
-- it, and one for each line of text for which a row leaves room above it
abbrev pub lines_before : (empty : ℕ) → (above : List Row) → (y : ℕ) → ℕ
lines_before empty [] y = (y - empty) / 21
lines_before empty (r ∷ rs) y = (r.y - empty) / 21 + (1 + lines_before (r.y + 21) rs y)

-- a mark may change a column: that of its place, and also the next one if it is a wide cell
abbrev pub reaches : ℕ → ℕ → Mark → Bool
reaches column place (Cell code lower reverse wide) = column == place || (wide && column == place + 1)
reaches column place (Dots value) = column == place

-- no mark of these reaches a column
abbrev pub none_reaches : ℕ → List Placed → Bool
none_reaches column marks = list_all (λ q. not (reaches column (q.x / 6) q.mark)) marks

-- a mark shows a sign at a column of a list of marks: in the line of a row with these marks, wherever the row is on its paper,
-- and in the line under the heading of the marks held
pub record Shows (look : Look) (column : ℕ) (sign : Sign) (marks : List Placed) : Type 0 where
  pub row : (above : List Row) (y : ℕ) (below : List Row)
      → ShowsAt look (lines_before 0 above y) column sign (rows_text look 0 (above ++ record { y = y; marks = marks } ∷ below))
  pub held : ShowsAt look 1 column sign (held_text look marks)

-- a cell shows its character, in reverse video if it is reversed, at the column of its place, if no later mark of its line reaches that
-- column; without that video a reversed blank shows as a full block
abbrev pub LinesShowEachCell : Type 0
LinesShowEachCell =
    (look : Look) (before : List Placed) (x code : ℕ) (lower reverse wide : Bool) (after : List Placed)
    → (reverse || not (is_blank (character lower code))) ≡ true → x / 6 < 80 → none_reaches (x / 6) after ≡ true
    → Shows look (x / 6) (shown look reverse (character lower code)) (before ++ record { x = x; mark = Cell code lower reverse wide } ∷ after)

-- a wide cell also shows a blank at the next column, in reverse video if it is reversed, if no later mark of its line reaches that;
-- without that video a reversed blank shows as a full block there too
abbrev pub WideCellsShowABlank : Type 0
WideCellsShowABlank =
    (look : Look) (before : List Placed) (x code : ℕ) (lower reverse : Bool) (after : List Placed)
    → (reverse || not (is_blank (character lower code))) ≡ true → x / 6 + 1 < 80 → none_reaches (x / 6 + 1) after ≡ true
    → Shows look (x / 6 + 1) (beside look reverse (character lower code)) (before ++ record { x = x; mark = Cell code lower reverse true } ∷ after)
