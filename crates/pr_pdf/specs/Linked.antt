-- Linking words, for proofs.
use Rattle.std.specs.Prelude.{◌≡◌, ℕ, ◌≤◌, Bool, true, List, [], ◌∷◌, ◌++◌, ◌==◌, ◌&&◌, drop, filter, map, nat_le, nat_lt, if◌then◌else◌}
use Rattle.pr_page.specs.declared.paper.Mark.{Mark}
use Rattle.pr_page.specs.declared.paper.Placed.{Placed}
use Rattle.pr_page.specs.declared.paper.Row.{Row}
use Rattle.pr_dots.specs.declared.character_sets.Shapes.{Shapes}
use Rattle.pr_pdf.specs.declared.document.Document.{Document}
use Rattle.pr_pdf.specs.Fonts.{code_of, font_of, font_pdf, used_among, used_of}
use Rattle.pr_pdf.specs.Parts.{run_end}
use Rattle.pr_pdf.specs.Pdf.{first_bodies, front_pdf, glyph_body, places_of}
use Rattle.pr_dots.specs.Sheets.{is_on}
use Rattle.pr_pdf.specs.Sheets.{end_of, run_begin}
use Rattle.pr_pdf.specs.Words.{hex_2, numbers_from}

-- if a table said what some marks use, the new one says what they and more marks use
abbrev pub HasSeen : List Mark → List Bool → List Bool → Type 0
HasSeen marks old new = (before : List Mark) → old ≡ used_of before → new ≡ used_of (before ++ marks)

-- the end of the run of a font, or nothing where the number is no font's
abbrev pub close_pdf : ℕ → List ℕ
close_pdf font = if nat_lt font 9 then run_end else []

-- what is left of the runs of marks, after the run of a font that has begun and ends at a dot column
abbrev pub rest_pdf : (height font end : ℕ) → List Placed → List ℕ
rest_pdf height font end [] = close_pdf font
rest_pdf height font end (placed ∷ marks) =
    (if (font == font_of placed.mark && end == placed.x) then []
    else close_pdf font ++ run_begin height (font_of placed.mark) placed.x)
    ++ hex_2 (code_of placed.mark) ++ rest_pdf height (font_of placed.mark) (end_of placed) marks

-- no row is above a distance, or above the row before it
abbrev pub ascend : ℕ → List Row → Bool
ascend y [] = true
ascend y (row ∷ rows) = nat_le y row.y && ascend row.y rows

-- this many rows in front are on no sheet from a sheet on
abbrev pub IsSkipped : (sheet count : ℕ) → List Row → Type 0
IsSkipped sheet count rows = (later : ℕ) → sheet ≤ later
    → filter (is_on later) rows ≡ filter (is_on later) (drop count rows)

-- a document has these objects so far
pub record HasBodies (bodies : List (List ℕ)) (document : Document) : Type 0 where
  pub text : document.text.items ≡ front_pdf bodies
  pub places : document.places.items ≡ places_of bodies

-- objects are added to those that there are
pub record Adds (more : List (List ℕ)) (old new : Document) : Type 0 where
  pub has : (bodies : List (List ℕ)) → HasBodies bodies old → HasBodies (bodies ++ more) new

-- all objects before the sheets
abbrev pub bodies_before : Shapes → (pages count4 count5 : ℕ) → List Bool → List (List ℕ)
bodies_before shapes pages count4 count5 used =
    first_bodies pages count4 count5 ++ map (font_pdf used) (numbers_from 0 9) ++ map (glyph_body shapes) (used_among used 0 2304)
