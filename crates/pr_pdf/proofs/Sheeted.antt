-- Which rows are on a sheet.
use Rattle.std.proofs.Common.{◌≡◌, ℕ, zero, suc, ◌+◌, ◌*◌, ◌/◌, ◌<◌, ◌≤◌, Bool, true, false, List, [], ◌∷◌, ◌++◌, drop, length, refl, sym, ap, ◌∙◌, add-one, arith, drop-cons}
use Rattle.std.specs.Prelude.{◌==◌, ◌||◌, filter, flat_map, map, nat_le, slice_index_or}
use Rattle.std.proofs.lemmas.Bool.{and_parts}
use Rattle.std.proofs.lemmas.Bool.Decides.{nat_tests}
use Rattle.std.proofs.lemmas.Grind.{common_steps}
use Rattle.std.proofs.lemmas.List.{append-nil}
use Rattle.pr_page.specs.declared.paper.Paper.{Paper}
use Rattle.pr_page.specs.declared.paper.Placed.{Placed}
use Rattle.pr_page.specs.declared.paper.Row.{Row}
use Rattle.pr_pdf.specs.Linked.{IsSkipped, ascend}
use Rattle.pr_pdf.specs.Pdf.{marks_of, rows_if}
use Rattle.pr_dots.specs.Sheets.{first_sheet, is_on, last_sheet, lowered, lowered_row, lowered_rows}

-- rows that are left, lowered
pub lowered_drop : (top n : ℕ) (rows : List Row) → drop n (lowered_rows top rows) ≡ lowered_rows top (drop n rows)
lowered_drop top zero rows = refl
lowered_drop top (suc n) [] = refl
lowered_drop top (suc n) (row ∷ rows) = grind (arith, common_steps, lowered_drop top n rows)

-- the rows of a printer that is drawn, lowered
pub rows_lowered : (drawn : Bool) (top : ℕ) (paper : Paper) → rows_if drawn (lowered top paper) ≡ lowered_rows top (rows_if drawn paper)
rows_lowered true top paper = refl
rows_lowered false top paper = refl

-- lowered rows have the same marks
pub lowered_marks : (top : ℕ) (rows : List Row) → marks_of (lowered_rows top rows) ≡ marks_of rows
lowered_marks top rows = ap (map (λ (placed : Placed). placed.mark)) (same rows)
  where
    same : (rows : List Row) → flat_map (λ row. row.marks) (lowered_rows top rows) ≡ flat_map (λ row. row.marks) rows
    same [] = refl
    same (row ∷ rows) = ap (λ marks. row.marks ++ marks) (same rows)

-- a row that ends before a sheet is not on it
pub not_on : (row : Row) (sheet : ℕ) → last_sheet row < sheet → is_on sheet row ≡ false
not_on row sheet before = grind (arith, common_steps, before)

-- one row more that ends before a sheet
pub one_skipped : (top sheet count : ℕ) (rows : List Row) (row : Row) → IsSkipped sheet count (lowered_rows top rows)
    → count < length rows → row ≡ slice_index_or rows count row → last_sheet (lowered_row top row) < sheet
    → IsSkipped sheet (count + 1) (lowered_rows top rows)
one_skipped top sheet count rows row skipped within at before later from =
    let here : drop count rows ≡ row ∷ drop (count + 1) rows = rw (add-one, drop-cons rows count row, ← at) refl in
    let first : drop count (lowered_rows top rows) ≡ lowered_row top row ∷ lowered_rows top (drop (count + 1) rows) =
    lowered_drop top count rows ∙ ap (lowered_rows top) here in
    let next : drop (count + 1) (lowered_rows top rows) ≡ lowered_rows top (drop (count + 1) rows) = lowered_drop top (count + 1) rows in
    grind (arith, common_steps, skipped later from, first, next, not_on (lowered_row top row) later, before, from)

-- rows after a sheet are not on it
pub none_after : (sheet y : ℕ) (rows : List Row) → ascend y rows ≡ true → sheet < y / 1386 → filter (is_on sheet) rows ≡ []
none_after sheet y [] ascends past = refl
none_after sheet y (row ∷ rows) ascends past = grind (arith, common_steps, ascends, past, none_after sheet row.y rows)

-- rows that ascend from further down ascend
pub ascend_lower : (y z : ℕ) (rows : List Row) → z ≤ y → ascend y rows ≡ true → ascend z rows ≡ true
ascend_lower y z [] lower ascends = refl
ascend_lower y z (row ∷ rows) lower ascends = grind (arith, common_steps, lower, ascends)

-- and so do those left
pub ascend_drop : (count : ℕ) (rows : List Row) → ascend 0 rows ≡ true → ascend 0 (drop count rows) ≡ true
ascend_drop zero rows ascends = ascends
ascend_drop (suc count) [] ascends = refl
ascend_drop (suc count) (row ∷ rows) ascends = grind (arith, common_steps, ascends, ascend_lower row.y 0 rows, ascend_drop count rows)

-- rows that ascend do when they are lowered
ascend_lowered : (top y : ℕ) (rows : List Row) → ascend y rows ≡ true → ascend (y + 21 * top) (lowered_rows top rows) ≡ true
ascend_lowered top y [] ascends = refl
ascend_lowered top y (row ∷ rows) ascends = grind (arith, common_steps, nat_tests, ascends, ascend_lowered top row.y rows)

-- a row that is after a sheet, and all after it
pub none_left : (top sheet i : ℕ) (rows : List Row) (row : Row) → i < length rows → row ≡ slice_index_or rows i row
    → ascend 0 rows ≡ true → sheet < first_sheet (lowered_row top row) → filter (is_on sheet) (lowered_rows top (drop i rows)) ≡ []
none_left top sheet i rows row within at ascends past =
    let here : drop i rows ≡ row ∷ drop (i + 1) rows = rw (add-one, drop-cons rows i row, ← at) refl in
    let low : ascend 0 (row ∷ drop (i + 1) rows) ≡ true = rw here at (ascend_drop i rows ascends) in
    let later = and_parts (nat_le 0 row.y) (ascend row.y (drop (i + 1) rows)) low in
    rw here (all (row.y + 21 * top) row.marks (lowered_rows top (drop (i + 1) rows)) (ascend_lowered top row.y (drop (i + 1) rows) later.1) past)
  where
    off : (sheet y : ℕ) → sheet < y / 1386 → (y / 1386 == sheet || (y + 13) / 1386 == sheet) ≡ false
    off sheet y past = grind (arith, nat_tests, past)

    all : (y : ℕ) (marks : List Placed) (rest : List Row) → ascend y rest ≡ true → sheet < y / 1386
        → filter (is_on sheet) (record { y = y; marks = marks } ∷ rest) ≡ []
    all y marks rest low after = rw (off sheet y after) (none_after sheet y rest low after)

-- one row more
pub row_more : {X : Type 0} (f : Row → List X) (test : Row → Bool) (top i : ℕ) (rows : List Row) (row : Row) → i < length rows → row ≡ slice_index_or rows i row
    → flat_map f (filter test (lowered_rows top (drop i rows)))
    ≡ flat_map f (filter test (lowered_row top row ∷ [])) ++ flat_map f (filter test (lowered_rows top (drop (i + 1) rows)))
row_more f test top i rows row within at =
    let here : drop i rows ≡ row ∷ drop (i + 1) rows = rw (add-one, drop-cons rows i row, ← at) refl in
    ap (λ rs. flat_map f (filter test (lowered_rows top rs))) here ∙ by (test (lowered_row top row)) (lowered_row top row) (lowered_rows top (drop (i + 1) rows)) refl
  where
    by : (is : Bool) (row : Row) (rest : List Row) → test row ≡ is → flat_map f (filter test (row ∷ rest)) ≡ flat_map f (filter test (row ∷ [])) ++ flat_map f (filter test rest)
    by true row rest is = rw is (ap (λ xs. xs ++ flat_map f (filter test rest)) (sym (append-nil (f row))))
    by false row rest is = rw is refl

-- what is skipped before a sheet is skipped before the next
pub skipped_later : (sheet count : ℕ) (rows : List Row) → IsSkipped sheet count rows → IsSkipped (sheet + 1) count rows
skipped_later sheet count rows skipped later from = skipped later (omega (arith, from))
