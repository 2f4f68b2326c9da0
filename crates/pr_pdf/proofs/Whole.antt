-- The whole document.
use Rattle.std.proofs.Common.{◌≡◌, ℕ, ◌+◌, ◌*◌, Bool, List, ◌++◌, length, ap, ◌∙◌, append_assoc}
use Rattle.std.specs.Prelude.{map}
use Rattle.pr_page.specs.declared.paper.Row.{Row}
use Rattle.pr_dots.specs.declared.character_sets.Shapes.{Shapes}
use Rattle.pr_render.specs.declared.format.Size.{Size}
use Rattle.pr_pdf.specs.declared.document.Document.{Document}
use Rattle.pr_pdf.specs.Fonts.{font_pdf, used_among, used_before, used_of}
use Rattle.pr_pdf.specs.Linked.{Adds, HasBodies, bodies_before}
use Rattle.pr_dots.specs.Sheets.{sheet_count}
use Rattle.pr_pdf.specs.Pdf.{bodies_from, bookmark_bodies, file_of, first_bodies, glyph_body, last_bodies, marks_of, or_empty, rows_pdf, sheet_bodies, table_pdf, trailer_pdf}
use Rattle.pr_pdf.specs.Sheets.{sheet_texts}
use Rattle.pr_pdf.specs.Words.{numbers_from}
use Rattle.pr_pdf.proofs.Objects.{file_is}

regrouped : (a b c d e f : List (List ℕ)) → ((a ++ b ++ c) ++ d) ++ (e ++ f) ≡ a ++ b ++ c ++ d ++ e ++ f
regrouped a b c d e f = simp append_assoc

-- all objects
all_bodies : (shapes : Shapes) (size : Size) (holes : Bool) (first pages count count4 count5 : ℕ) (used : List Bool) (sheets : List (List ℕ)) → pages ≡ first + 2 * count → count ≡ length sheets
    → (bodies_before shapes pages count4 count5 used ++ sheet_bodies pages first sheets) ++ (last_bodies size holes first count ++ bookmark_bodies (pages + 2) first count4 count5)
    ≡ bodies_from shapes size holes first used sheets count4 count5
all_bodies shapes size holes first pages count count4 count5 used sheets pages_is count_is =
    rw (pages_is, count_is)
    (regrouped (first_bodies (first + 2 * length sheets) count4 count5) (map (font_pdf used) (numbers_from 0 9)) (map (glyph_body shapes) (used_among used 0 2304))
    (sheet_bodies (first + 2 * length sheets) first sheets) (last_bodies size holes first (length sheets))
    (bookmark_bodies (first + 2 * length sheets + 2) first count4 count5))

-- the file of all objects
drawn : (shapes : Shapes) (size : Size) (holes : Bool) (first pages count count4 count5 : ℕ) (used : List Bool) (sheets : List (List ℕ)) (a b c : Document) → pages ≡ first + 2 * count → count ≡ length sheets
    → HasBodies (bodies_before shapes pages count4 count5 used) a → Adds (sheet_bodies pages first sheets) a b → Adds (last_bodies size holes first count ++ bookmark_bodies (pages + 2) first count4 count5) b c
    → c.text.items ++ table_pdf c.places.items ++ trailer_pdf (length c.places.items) (length c.text.items) ≡ file_of (bodies_from shapes size holes first used sheets count4 count5)
drawn shapes size holes first pages count count4 count5 used sheets a b c pages_is count_is before now last =
    let has : HasBodies ((bodies_before shapes pages count4 count5 used ++ sheet_bodies pages first sheets) ++ (last_bodies size holes first count ++ bookmark_bodies (pages + 2) first count4 count5)) c =
    last.has (bodies_before shapes pages count4 count5 used ++ sheet_bodies pages first sheets) (now.has (bodies_before shapes pages count4 count5 used) before) in
    file_is ((bodies_before shapes pages count4 count5 used ++ sheet_bodies pages first sheets) ++ (last_bodies size holes first count ++ bookmark_bodies (pages + 2) first count4 count5)) c has
    ∙ ap file_of (all_bodies shapes size holes first pages count count4 count5 used sheets pages_is count_is)

-- the file of rows
pub rows_drawn : (shapes : Shapes) (size : Size) (holes : Bool) (rows4 rows5 : List Row) (first pages count count4 count5 : ℕ) (used : List Bool) (a b c : Document)
    → used ≡ used_of (marks_of rows4 ++ marks_of rows5) → first ≡ 19 + used_before used 2304
    → pages ≡ first + 2 * count → count ≡ length (or_empty (sheet_texts rows4 ++ sheet_texts rows5))
    → count4 ≡ sheet_count rows4 → count5 ≡ sheet_count rows5
    → HasBodies (bodies_before shapes pages count4 count5 used) a → Adds (sheet_bodies pages first (or_empty (sheet_texts rows4 ++ sheet_texts rows5))) a b
    → Adds (last_bodies size holes first count ++ bookmark_bodies (pages + 2) first count4 count5) b c
    → c.text.items ++ table_pdf c.places.items ++ trailer_pdf (length c.places.items) (length c.text.items) ≡ rows_pdf shapes size holes rows4 rows5
rows_drawn shapes size holes rows4 rows5 first pages count count4 count5 used a b c used_is first_is pages_is count_is four_is five_is before now last =
    drawn shapes size holes first pages count count4 count5 used (or_empty (sheet_texts rows4 ++ sheet_texts rows5)) a b c pages_is count_is before now last
    ∙ ap (λ n. file_of (bodies_from shapes size holes n used (or_empty (sheet_texts rows4 ++ sheet_texts rows5)) count4 count5)) first_is
    ∙ ap (λ (u : List Bool). file_of (bodies_from shapes size holes (19 + used_before u 2304) u (or_empty (sheet_texts rows4 ++ sheet_texts rows5)) count4 count5)) used_is
    ∙ ap (λ n. file_of (bodies_from shapes size holes (19 + used_before (used_of (marks_of rows4 ++ marks_of rows5)) 2304) (used_of (marks_of rows4 ++ marks_of rows5))
    (or_empty (sheet_texts rows4 ++ sheet_texts rows5)) n count5)) four_is
    ∙ ap (λ n. file_of (bodies_from shapes size holes (19 + used_before (used_of (marks_of rows4 ++ marks_of rows5)) 2304) (used_of (marks_of rows4 ++ marks_of rows5))
    (or_empty (sheet_texts rows4 ++ sheet_texts rows5)) (sheet_count rows4) n)) five_is
