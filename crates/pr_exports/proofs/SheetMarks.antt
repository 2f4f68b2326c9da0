-- The marks and the rows of a sheet.
use Rattle.std.proofs.Common.{◌≡◌, ℕ, ◌+◌, ◌*◌, ◌≤◌, Bool, true, false, cond, List, [], ◌∷◌, ◌++◌, map}
use Rattle.std.proofs.Common.{refl, sym, ap, subst, ◌∙◌, arith, append-nil}
use Rattle.std.specs.Prelude.{filter}
use Rattle.std.proofs.lemmas.List.Elements.{filter-append}
use Rattle.pr_page.specs.Marks.{in_row, marks_on}
use Rattle.pr_page.specs.declared.carriage.MarkOnPaper.{MarkOnPaper}
use Rattle.pr_page.specs.declared.paper.Paper.{Paper}
use Rattle.pr_page.specs.declared.paper.Placed.{Placed}
use Rattle.pr_page.specs.declared.paper.Row.{Row}
use Rattle.pr_dots.specs.Sheets.{is_on, lowered, lowered_row, lowered_rows, rows_on}
use Rattle.pr_exports.specs.Marks.{AreMarked, HasMarks, has_marks, on_paper}
use Rattle.pr_exports.specs.Marks.{is_marked_on}
use Rattle.pr_exports.specs.declared.marks.WireMark.{WireMark}
use Rattle.pr_exports.proofs.MarkRows.{marks_in, one_paper}

-- a mark with its place, and a row, on a sheet
abbrev is_placed_on : (top sheet : ℕ) → MarkOnPaper → Bool
is_placed_on top sheet m = is_on sheet (record { y = m.y + 21 * top; marks = [] })

abbrev is_row_on : (top sheet : ℕ) → Row → Bool
is_row_on top sheet row = is_on sheet (lowered_row top row)

abbrev only_on : (top sheet : ℕ) → Paper → Paper
only_on top sheet paper = record paper { rows = filter (is_row_on top sheet) paper.rows }

one_placed : (top sheet : ℕ) (w : WireMark) (ws : List WireMark) (t : Bool) → is_marked_on top sheet w ≡ t
    → map on_paper (filter (is_marked_on top sheet) ws) ≡ filter (is_placed_on top sheet) (map on_paper ws)
    → map on_paper (cond t (w ∷ filter (is_marked_on top sheet) ws) (filter (is_marked_on top sheet) ws))
    ≡ cond t (on_paper w ∷ filter (is_placed_on top sheet) (map on_paper ws))
    (filter (is_placed_on top sheet) (map on_paper ws))
one_placed top sheet w ws true is more = ap (λ l. on_paper w ∷ l) more
one_placed top sheet w ws false is more = more

placed_on : (top sheet : ℕ) (ws : List WireMark)
    → map on_paper (filter (is_marked_on top sheet) ws) ≡ filter (is_placed_on top sheet) (map on_paper ws)
placed_on top sheet [] = refl
placed_on top sheet (w ∷ ws) =
    one_placed top sheet w ws (is_marked_on top sheet w) refl (placed_on top sheet ws)

-- all marks of a row are on a sheet, or none
in_row_on : (top sheet : ℕ) (y : ℕ) (placed : List Placed) (t : Bool)
    → is_on sheet (record { y = y + 21 * top; marks = [] }) ≡ t
    → filter (is_placed_on top sheet) (map (in_row y) placed) ≡ cond t (map (in_row y) placed) []
in_row_on top sheet y [] true is = refl
in_row_on top sheet y [] false is = refl
in_row_on top sheet y (p ∷ ps) true is =
    ap (λ t. cond t (in_row y p ∷ filter (is_placed_on top sheet) (map (in_row y) ps))
    (filter (is_placed_on top sheet) (map (in_row y) ps))) is
    ∙ ap (λ l. in_row y p ∷ l) (in_row_on top sheet y ps true is)
in_row_on top sheet y (p ∷ ps) false is =
    ap (λ t. cond t (in_row y p ∷ filter (is_placed_on top sheet) (map (in_row y) ps))
    (filter (is_placed_on top sheet) (map (in_row y) ps))) is
    ∙ in_row_on top sheet y ps false is

one_row : (top sheet : ℕ) (row : Row) (rows : List Row) (t : Bool) → is_row_on top sheet row ≡ t
    → filter (is_placed_on top sheet) (marks_in rows) ≡ marks_in (filter (is_row_on top sheet) rows)
    → filter (is_placed_on top sheet) (map (in_row row.y) row.marks ++ marks_in rows)
    ≡ marks_in (cond t (row ∷ filter (is_row_on top sheet) rows) (filter (is_row_on top sheet) rows))
one_row top sheet row rows true is more =
    filter-append (is_placed_on top sheet) (map (in_row row.y) row.marks) (marks_in rows)
    ∙ ap (λ l. l ++ filter (is_placed_on top sheet) (marks_in rows)) (in_row_on top sheet row.y row.marks true is)
    ∙ ap (λ l. map (in_row row.y) row.marks ++ l) more
one_row top sheet row rows false is more =
    filter-append (is_placed_on top sheet) (map (in_row row.y) row.marks) (marks_in rows)
    ∙ ap (λ l. l ++ filter (is_placed_on top sheet) (marks_in rows)) (in_row_on top sheet row.y row.marks false is)
    ∙ more

marks_on_sheet : (top sheet : ℕ) (rows : List Row)
    → filter (is_placed_on top sheet) (marks_in rows) ≡ marks_in (filter (is_row_on top sheet) rows)
marks_on_sheet top sheet [] = refl
marks_on_sheet top sheet (row ∷ rows) =
    one_row top sheet row rows (is_row_on top sheet row) refl (marks_on_sheet top sheet rows)

-- rows with marks are so without some of them
one_marked : (top sheet from : ℕ) (row : Row) (rows : List Row) (t : Bool) → is_row_on top sheet row ≡ t
    → from ≤ row.y → has_marks row ≡ true
    → ((n : ℕ) → n ≤ row.y + 1 → AreMarked n (filter (is_row_on top sheet) rows))
    → AreMarked from (cond t (row ∷ filter (is_row_on top sheet) rows) (filter (is_row_on top sheet) rows))
one_marked top sheet from row rows true is h some more = (h, some, more (row.y + 1) (omega arith))
one_marked top sheet from row rows false is h some more = more from (omega (arith, h))

still_marked : (top sheet from to : ℕ) (rows : List Row) → from ≤ to → AreMarked to rows
    → AreMarked from (filter (is_row_on top sheet) rows)
still_marked top sheet from to [] h marked = tt
still_marked top sheet from to (row ∷ rows) h marked =
    one_marked top sheet from row rows (is_row_on top sheet row) refl (omega (arith, h, marked.0)) marked.1
    (λ n inside. still_marked top sheet n (row.y + 1) rows inside marked.2)

-- the paper of a sheet's marks has the sheet's rows
paper_on : (top sheet : ℕ) (marks : List WireMark) (paper : Paper) → HasMarks marks paper
    → HasMarks (filter (is_marked_on top sheet) marks) (only_on top sheet paper)
paper_on top sheet marks paper h =
    let front : (paper : Paper) → paper.held ≡ [] → marks_on paper 0 ≡ marks_in paper.rows =
    λ paper none. ap (λ l. marks_in paper.rows ++ map (in_row 0) l) none ∙ append-nil (marks_in paper.rows) in
    record {
      marks_are = placed_on top sheet marks ∙ ap (filter (is_placed_on top sheet)) (h.marks_are ∙ front paper h.held)
          ∙ marks_on_sheet top sheet paper.rows ∙ sym (front (only_on top sheet paper) h.held);
      held = h.held;
      rows = still_marked top sheet 0 0 paper.rows (omega arith) h.rows;
    }

-- the rows of a lowered paper on a sheet
one_lowered : (top sheet : ℕ) (row : Row) (rows : List Row) (t : Bool) → is_row_on top sheet row ≡ t
    → rows_on sheet (lowered_rows top rows) ≡ lowered_rows top (filter (is_row_on top sheet) rows)
    → cond t (lowered_row top row ∷ rows_on sheet (lowered_rows top rows)) (rows_on sheet (lowered_rows top rows))
    ≡ lowered_rows top (cond t (row ∷ filter (is_row_on top sheet) rows) (filter (is_row_on top sheet) rows))
one_lowered top sheet row rows true is more = ap (λ l. lowered_row top row ∷ l) more
one_lowered top sheet row rows false is more = more

lowered_on : (top sheet : ℕ) (rows : List Row)
    → rows_on sheet (lowered_rows top rows) ≡ lowered_rows top (filter (is_row_on top sheet) rows)
lowered_on top sheet [] = refl
lowered_on top sheet (row ∷ rows) =
    one_lowered top sheet row rows (is_row_on top sheet row) refl (lowered_on top sheet rows)

-- marks that are the same on a sheet have the same rows there
pub same_rows_on : (top sheet : ℕ) (marks other : List WireMark) (paper around : Paper)
    → HasMarks marks paper → HasMarks other around
    → filter (is_marked_on top sheet) marks ≡ filter (is_marked_on top sheet) other
    → rows_on sheet (lowered top paper).rows ≡ rows_on sheet (lowered top around).rows
same_rows_on top sheet marks other paper around h k same =
    let one = paper_on top sheet marks paper h in
    let two = subst (λ l. HasMarks l (only_on top sheet around)) (sym same) (paper_on top sheet other around k) in
    let papers : only_on top sheet paper ≡ only_on top sheet around =
    one_paper (filter (is_marked_on top sheet) marks) (only_on top sheet paper) (only_on top sheet around) one two in
    lowered_on top sheet paper.rows ∙ ap (λ (p : Paper). lowered_rows top p.rows) papers
    ∙ sym (lowered_on top sheet around.rows)
