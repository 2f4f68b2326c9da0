-- Which dots of rows are on a sheet.
use Rattle.std.proofs.Common.{◌≡◌, ℕ, ◌+◌, ◌-◌, ◌*◌, ◌/◌, ◌%◌, ◌^◌, ◌<◌, Bool, true, false, cond, List, [], ◌∷◌, ◌++◌, refl, sym, ap, ◌∙◌, arith}
use Rattle.std.specs.Prelude.{◌==◌, ◌&&◌, ◌||◌, filter, flat_map, map}
use Rattle.std.specs.List.{list_any}
use Rattle.std.proofs.lemmas.Bool.Decides.{nat_tests}
use Rattle.std.proofs.lemmas.Grind.{common_steps}
use Rattle.std.proofs.lemmas.List.Elements.{filter-append}
use Rattle.pr_page.specs.declared.paper.Paper.{Paper}
use Rattle.pr_page.specs.declared.paper.Placed.{Placed}
use Rattle.pr_page.specs.declared.paper.Row.{Row}
use Rattle.pr_dots.specs.Dots.{Dot, bit_dots, column_dots, columns_dots, columns_of, dots_of, has_dot, is_at, row_dots}
use Rattle.pr_dots.specs.declared.character_sets.Shapes.{Shapes}
use Rattle.pr_pdf.specs.Drawn.{disc_on, has_disc, sheet_discs}
use Rattle.pr_dots.specs.Sheets.{is_on}
use Rattle.pr_pdf.proofs.DiscByDisc.{sheets_draw}

-- a dot is on a sheet
abbrev is_in : ℕ → Dot → Bool
is_in sheet dot = dot.y / 1386 == sheet

-- a row that is not on a sheet has no dot there
off : (sheet y b : ℕ) → (y / 1386 == sheet || (y + 13) / 1386 == sheet) ≡ false → b < 7 → ((y + 2 * b) / 1386 == sheet) ≡ false
off sheet y b not_on few = grind (arith, common_steps, not_on, few)

bit_off : (sheet x y v b : ℕ) → (y / 1386 == sheet || (y + 13) / 1386 == sheet) ≡ false → b < 7 → filter (is_in sheet) (bit_dots x y v b) ≡ []
bit_off sheet x y v b not_on few = by (v / 2 ^ b % 2 == 1)
  where
    by : (is : Bool) → filter (is_in sheet) (cond is (record { x = x; y = y + 2 * b } ∷ []) []) ≡ []
    by true = rw (off sheet y b not_on few) refl
    by false = refl

-- nothing and nothing
nothing : (sheet : ℕ) (a b : List Dot) → filter (is_in sheet) a ≡ [] → filter (is_in sheet) b ≡ [] → filter (is_in sheet) (a ++ b) ≡ []
nothing sheet a b p q = rw (filter-append (is_in sheet) a b, p, q) refl

column_off : (sheet x y v : ℕ) → (y / 1386 == sheet || (y + 13) / 1386 == sheet) ≡ false → filter (is_in sheet) (column_dots x y v) ≡ []
column_off sheet x y v not_on =
    step 0 (1 ∷ 2 ∷ 3 ∷ 4 ∷ 5 ∷ 6 ∷ []) (omega arith)
    (step 1 (2 ∷ 3 ∷ 4 ∷ 5 ∷ 6 ∷ []) (omega arith)
    (step 2 (3 ∷ 4 ∷ 5 ∷ 6 ∷ []) (omega arith)
    (step 3 (4 ∷ 5 ∷ 6 ∷ []) (omega arith)
    (step 4 (5 ∷ 6 ∷ []) (omega arith) (step 5 (6 ∷ []) (omega arith) (step 6 [] (omega arith) refl))))))
  where
    step : (b : ℕ) (bs : List ℕ) → b < 7 → filter (is_in sheet) (flat_map (bit_dots x y v) bs) ≡ []
        → filter (is_in sheet) (flat_map (bit_dots x y v) (b ∷ bs)) ≡ []
    step b bs few rest = nothing sheet (bit_dots x y v b) (flat_map (bit_dots x y v) bs) (bit_off sheet x y v b not_on few) rest

columns_off : (sheet x y : ℕ) (vs : List ℕ) → (y / 1386 == sheet || (y + 13) / 1386 == sheet) ≡ false → filter (is_in sheet) (columns_dots x y vs) ≡ []
columns_off sheet x y [] not_on = refl
columns_off sheet x y (v ∷ vs) not_on = nothing sheet (column_dots x y v) (columns_dots (x + 1) y vs) (column_off sheet x y v not_on) (columns_off sheet (x + 1) y vs not_on)

marks_off : (shapes : Shapes) (sheet y : ℕ) (marks : List Placed) → (y / 1386 == sheet || (y + 13) / 1386 == sheet) ≡ false
    → filter (is_in sheet) (flat_map (λ p. columns_dots p.x y (columns_of shapes p.mark)) marks) ≡ []
marks_off shapes sheet y [] not_on = refl
marks_off shapes sheet y (p ∷ ps) not_on =
    nothing sheet (columns_dots p.x y (columns_of shapes p.mark)) (flat_map (λ p. columns_dots p.x y (columns_of shapes p.mark)) ps)
    (columns_off sheet p.x y (columns_of shapes p.mark) not_on) (marks_off shapes sheet y ps not_on)

-- rows that are not on a sheet can be left out
rows_have : (shapes : Shapes) (sheet : ℕ) (rows : List Row) → filter (is_in sheet) (flat_map (row_dots shapes) (filter (is_on sheet) rows)) ≡ filter (is_in sheet) (flat_map (row_dots shapes) rows)
rows_have shapes sheet [] = refl
rows_have shapes sheet (row ∷ rows) = by (is_on sheet row) refl (rows_have shapes sheet rows)
  where
    by : (on : Bool) → is_on sheet row ≡ on
        → filter (is_in sheet) (flat_map (row_dots shapes) (filter (is_on sheet) rows)) ≡ filter (is_in sheet) (flat_map (row_dots shapes) rows)
        → filter (is_in sheet) (flat_map (row_dots shapes) (cond on (row ∷ filter (is_on sheet) rows) (filter (is_on sheet) rows)))
        ≡ filter (is_in sheet) (row_dots shapes row ++ flat_map (row_dots shapes) rows)
    by true on rest =
        rw (filter-append (is_in sheet) (row_dots shapes row) (flat_map (row_dots shapes) (filter (is_on sheet) rows)), filter-append (is_in sheet) (row_dots shapes row) (flat_map (row_dots shapes) rows), rest) refl
    by false on rest =
        rw (filter-append (is_in sheet) (row_dots shapes row) (flat_map (row_dots shapes) rows), marks_off shapes sheet row.y row.marks on) rest

-- a dot that is not on a sheet is at no place of it
elsewhere : (sheet x y a b : ℕ) → y / 1386 ≡ sheet → (b / 1386 == sheet) ≡ false → (a == x && b == y) ≡ false
elsewhere sheet x y a b on other = grind (arith, nat_tests, other, on)

-- a dot at a place of a sheet is on the sheet
any_on : (sheet x y : ℕ) → y / 1386 ≡ sheet → (dots : List Dot) → list_any (is_at x y) (filter (is_in sheet) dots) ≡ list_any (is_at x y) dots
any_on sheet x y on [] = refl
any_on sheet x y on (dot ∷ dots) = by (is_in sheet dot) refl (any_on sheet x y on dots)
  where
    by : (is : Bool) → is_in sheet dot ≡ is → list_any (is_at x y) (filter (is_in sheet) dots) ≡ list_any (is_at x y) dots
        → list_any (is_at x y) (cond is (dot ∷ filter (is_in sheet) dots) (filter (is_in sheet) dots)) ≡ (is_at x y dot || list_any (is_at x y) dots)
    by true is rest = ap (λ b. is_at x y dot || b) rest
    by false is rest = rw (elsewhere sheet x y dot.x dot.y on is) rest

-- discs are the same where their dots are
same_across : (x a : ℕ) → (42 * x + 21 == 42 * a + 21) ≡ (a == x)
same_across x a = grind (arith, nat_tests)

same_up : (k y b : ℕ) → y < k → (20 * (k - y) == 20 * (k - b)) ≡ (b == y)
same_up k y b within = grind (arith, nat_tests, within)

same_disc : (sheet x y a b : ℕ) → y / 1386 ≡ sheet
    → (42 * x + 21 == 42 * a + 21 && 20 * (1386 * (sheet + 1) + 13 - y) == 20 * (1386 * (sheet + 1) + 13 - b)) ≡ (a == x && b == y)
same_disc sheet x y a b on =
    let within : y < 1386 * (sheet + 1) + 13 = omega (arith, on) in
    rw (same_across x a, same_up (1386 * (sheet + 1) + 13) y b within) refl

-- the discs of dots
any_disc : (sheet x y : ℕ) → y / 1386 ≡ sheet → (dots : List Dot) → has_disc sheet x y (map (disc_on sheet) dots) ≡ list_any (is_at x y) dots
any_disc sheet x y on [] = refl
any_disc sheet x y on (dot ∷ dots) = both (same_disc sheet x y dot.x dot.y on) (any_disc sheet x y on dots)
  where
    both : {a b c d : Bool} → a ≡ b → c ≡ d → (a || c) ≡ (b || d)
    both {a} {b} {c} {d} p q = rw (p, q) refl

-- of a paper
pub papers_drawn : (shapes : Shapes) (paper : Paper) (sheet x y : ℕ) → y / 1386 ≡ sheet → has_disc sheet x y (sheet_discs shapes paper.rows sheet) ≡ has_dot shapes paper x y
unfolding has_dot dots_of
papers_drawn shapes paper sheet x y on =
    ap (has_disc sheet x y) (sheets_draw shapes paper.rows sheet)
    ∙ any_disc sheet x y on (flat_map (row_dots shapes) (filter (is_on sheet) paper.rows))
    ∙ sym (any_on sheet x y on (flat_map (row_dots shapes) (filter (is_on sheet) paper.rows)))
    ∙ ap (list_any (is_at x y)) (rows_have shapes sheet paper.rows)
    ∙ any_on sheet x y on (flat_map (row_dots shapes) paper.rows)
