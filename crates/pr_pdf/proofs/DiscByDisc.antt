-- What the strings of a row draw.
use Rattle.std.proofs.Common.{◌≡◌, ℕ, ◌+◌, ◌-◌, ◌*◌, ◌/◌, ◌%◌, ◌^◌, ◌<◌, ◌≤◌, Bool, true, false, cond, List, [], ◌∷◌, ◌++◌, refl, ap, arith, append_assoc}
use Rattle.std.specs.Prelude.{◌==◌, filter, flat_map, map}
use Rattle.std.proofs.lemmas.Bool.{and_parts, eqb-true}
use Rattle.std.proofs.lemmas.Grind.{common_steps}
use Rattle.pr_page.specs.declared.paper.Mark.{Mark}
use Rattle.pr_page.specs.declared.paper.Mark.TheVariants.{Cell, Dots}
use Rattle.pr_page.specs.declared.paper.Placed.{Placed}
use Rattle.pr_page.specs.declared.paper.Row.{Row}
use Rattle.pr_dots.specs.Dots.{Dot, bit_dots, column_dots, columns_dots, columns_of, row_dots}
use Rattle.pr_dots.specs.declared.character_sets.Shapes.{Shapes}
use Rattle.pr_pdf.specs.Drawn.{disc_on, moved, row_discs, run_discs, sheet_discs, string_discs}
use Rattle.pr_pdf.specs.Fonts.{Disc, code_of, font_columns, font_of, glyph_disc, glyph_discs, mark_of}
use Rattle.pr_dots.specs.Sheets.{is_on}
use Rattle.pr_pdf.specs.Sheets.{Run, end_of, goes_on, height_on, joined, runs_of}

-- a disc
abbrev disc_at : ℕ → ℕ → Disc
disc_at a b = record { across = a; up = b }

-- a row on a sheet is above the sheet's end
above : (row : Row) (sheet : ℕ) → is_on sheet row ≡ true → row.y ≤ 1386 * (sheet + 1)
above row sheet on = grind (arith, common_steps, on)

-- the disc of a bit that is moved
bit_moved : (sheet x y i j v b : ℕ) → j ≡ x + i → y ≤ 1386 * (sheet + 1) → b < 7
    → map (moved (42 * x) (height_on sheet y)) (map glyph_disc (bit_dots i 0 v b)) ≡ map (disc_on sheet) (bit_dots j y v b)
bit_moved sheet x y i j v b at within few = by (v / 2 ^ b % 2 == 1)
  where
    both : (a b c d : ℕ) → a ≡ c → b ≡ d → disc_at a b ≡ disc_at c d
    both a b c d p q = rw (p, q) refl

    by : (is : Bool) → map (moved (42 * x) (height_on sheet y)) (map glyph_disc (cond is (record { x = i; y = 0 + 2 * b } ∷ []) []))
        ≡ map (disc_on sheet) (cond is (record { x = j; y = y + 2 * b } ∷ []) [])
    by true =
        ap (λ d. d ∷ [])
        (both (42 * x + (42 * i + 21)) (20 * (1386 * (sheet + 1) + 1 - y) + (240 - 20 * (0 + 2 * b))) (42 * j + 21) (20 * (1386 * (sheet + 1) + 13 - (y + 2 * b)))
        (omega (arith, at)) (omega (arith, within, few)))
    by false = refl

-- the discs of a column
column_moved : (sheet x y i j v : ℕ) → j ≡ x + i → y ≤ 1386 * (sheet + 1)
    → map (moved (42 * x) (height_on sheet y)) (map glyph_disc (column_dots i 0 v)) ≡ map (disc_on sheet) (column_dots j y v)
column_moved sheet x y i j v at within =
    step 0 (1 ∷ 2 ∷ 3 ∷ 4 ∷ 5 ∷ 6 ∷ []) (omega arith)
    (step 1 (2 ∷ 3 ∷ 4 ∷ 5 ∷ 6 ∷ []) (omega arith)
    (step 2 (3 ∷ 4 ∷ 5 ∷ 6 ∷ []) (omega arith)
    (step 3 (4 ∷ 5 ∷ 6 ∷ []) (omega arith)
    (step 4 (5 ∷ 6 ∷ []) (omega arith) (step 5 (6 ∷ []) (omega arith) (step 6 [] (omega arith) refl))))))
  where
    joined_maps : (f : Disc → Disc) (a b c d : List Dot) → map f (map glyph_disc a) ≡ map (disc_on sheet) c → map f (map glyph_disc b) ≡ map (disc_on sheet) d
        → map f (map glyph_disc (a ++ b)) ≡ map (disc_on sheet) (c ++ d)
    joined_maps f a b c d p q = grind (arith, common_steps, p, q)

    step : (b : ℕ) (bs : List ℕ) → b < 7
        → map (moved (42 * x) (height_on sheet y)) (map glyph_disc (flat_map (bit_dots i 0 v) bs)) ≡ map (disc_on sheet) (flat_map (bit_dots j y v) bs)
        → map (moved (42 * x) (height_on sheet y)) (map glyph_disc (flat_map (bit_dots i 0 v) (b ∷ bs))) ≡ map (disc_on sheet) (flat_map (bit_dots j y v) (b ∷ bs))
    step b bs few rest =
        joined_maps (moved (42 * x) (height_on sheet y)) (bit_dots i 0 v b) (flat_map (bit_dots i 0 v) bs) (bit_dots j y v b) (flat_map (bit_dots j y v) bs)
        (bit_moved sheet x y i j v b at within few) rest

-- the discs of columns
columns_moved : (sheet x y i j : ℕ) → j ≡ x + i → y ≤ 1386 * (sheet + 1) → (vs : List ℕ)
    → map (moved (42 * x) (height_on sheet y)) (map glyph_disc (columns_dots i 0 vs)) ≡ map (disc_on sheet) (columns_dots j y vs)
columns_moved sheet x y i j at within [] = refl
columns_moved sheet x y i j at within (v ∷ vs) =
    joined_maps (moved (42 * x) (height_on sheet y)) (column_dots i 0 v) (columns_dots (i + 1) 0 vs) (column_dots j y v) (columns_dots (j + 1) y vs)
    (column_moved sheet x y i j v at within) (columns_moved sheet x y (i + 1) (j + 1) (omega (arith, at)) within vs)
  where
    joined_maps : (f : Disc → Disc) (a b c d : List Dot) → map f (map glyph_disc a) ≡ map (disc_on sheet) c → map f (map glyph_disc b) ≡ map (disc_on sheet) d
        → map f (map glyph_disc (a ++ b)) ≡ map (disc_on sheet) (c ++ d)
    joined_maps f a b c d p q = grind (arith, common_steps, p, q)

-- a mark is that of its code in its font
mark_is : (mark : Mark) → mark_of (font_of mark) (code_of mark) ≡ mark
mark_is (Cell code true true true) = refl
mark_is (Cell code true true false) = refl
mark_is (Cell code true false true) = refl
mark_is (Cell code true false false) = refl
mark_is (Cell code false true true) = refl
mark_is (Cell code false true false) = refl
mark_is (Cell code false false true) = refl
mark_is (Cell code false false false) = refl
mark_is (Dots value) = refl

-- what the glyph of a mark draws at its place
glyph_moved : (shapes : Shapes) (sheet y : ℕ) (placed : Placed) → y ≤ 1386 * (sheet + 1)
    → map (moved (42 * placed.x) (height_on sheet y)) (glyph_discs shapes (mark_of (font_of placed.mark) (code_of placed.mark)))
    ≡ map (disc_on sheet) (columns_dots placed.x y (columns_of shapes placed.mark))
glyph_moved shapes sheet y placed within =
    rw (mark_is placed.mark) (columns_moved sheet placed.x y 0 placed.x (omega arith) within (columns_of shapes placed.mark))

-- a mark in front of runs draws its glyph
mark_joined : (shapes : Shapes) (height : ℕ) (placed : Placed) (runs : List Run)
    → flat_map (run_discs shapes height) (joined placed runs)
    ≡ map (moved (42 * placed.x) height) (glyph_discs shapes (mark_of (font_of placed.mark) (code_of placed.mark))) ++ flat_map (run_discs shapes height) runs
mark_joined shapes height placed [] = grind (arith, common_steps)
mark_joined shapes height placed (run ∷ runs) = by (goes_on placed run) refl
  where
    same : (a b f g : ℕ) (codes : List ℕ) → a ≡ b → f ≡ g → string_discs shapes a height f codes ≡ string_discs shapes b height g codes
    same a b f g codes p q = rw (p, q) refl

    regrouped : (a b c d : List Disc) → b ≡ c → (a ++ b) ++ d ≡ a ++ (c ++ d)
    regrouped a b c d p = rw p (append_assoc a c d)

    by : (on : Bool) → goes_on placed run ≡ on
        → string_discs shapes (42 * placed.x) height (font_of placed.mark) (code_of placed.mark ∷ cond on run.string []) ++ flat_map (run_discs shapes height) (cond on runs (run ∷ runs))
        ≡ map (moved (42 * placed.x) height) (glyph_discs shapes (mark_of (font_of placed.mark) (code_of placed.mark))) ++ (run_discs shapes height run ++ flat_map (run_discs shapes height) runs)
    by true on =
        let parts = and_parts (font_of placed.mark == run.font) (end_of placed == run.x) on in
        let font : font_of placed.mark ≡ run.font = eqb-true (font_of placed.mark) run.font parts.0 in
        let end : end_of placed ≡ run.x = eqb-true (end_of placed) run.x parts.1 in
        regrouped (map (moved (42 * placed.x) height) (glyph_discs shapes (mark_of (font_of placed.mark) (code_of placed.mark))))
        (string_discs shapes (42 * placed.x + 42 * font_columns (font_of placed.mark)) height (font_of placed.mark) run.string) (run_discs shapes height run)
        (flat_map (run_discs shapes height) runs)
        (same (42 * placed.x + 42 * font_columns (font_of placed.mark)) (42 * run.x) (font_of placed.mark) run.font run.string (omega (arith, end)) font)
    by false on = regrouped (map (moved (42 * placed.x) height) (glyph_discs shapes (mark_of (font_of placed.mark) (code_of placed.mark)))) [] [] (run_discs shapes height run ++ flat_map (run_discs shapes height) runs) refl

-- what the runs of marks draw
runs_draw : (shapes : Shapes) (sheet y : ℕ) (marks : List Placed) → y ≤ 1386 * (sheet + 1)
    → flat_map (run_discs shapes (height_on sheet y)) (runs_of marks)
    ≡ map (disc_on sheet) (flat_map (λ p. columns_dots p.x y (columns_of shapes p.mark)) marks)
runs_draw shapes sheet y [] within = refl
runs_draw shapes sheet y (placed ∷ marks) within =
    grind (arith, common_steps, mark_joined shapes (height_on sheet y) placed (runs_of marks), glyph_moved shapes sheet y placed within, runs_draw shapes sheet y marks within)

-- what a row draws
row_draws : (shapes : Shapes) (sheet : ℕ) (row : Row) → is_on sheet row ≡ true → row_discs shapes sheet row ≡ map (disc_on sheet) (row_dots shapes row)
row_draws shapes sheet row on = runs_draw shapes sheet row.y row.marks (above row sheet on)

-- what a sheet draws
pub sheets_draw : (shapes : Shapes) (rows : List Row) (sheet : ℕ) → sheet_discs shapes rows sheet ≡ map (disc_on sheet) (flat_map (row_dots shapes) (filter (is_on sheet) rows))
sheets_draw shapes [] sheet = refl
sheets_draw shapes (row ∷ rows) sheet = by (is_on sheet row) refl (sheets_draw shapes rows sheet)
  where
    by : (on : Bool) → is_on sheet row ≡ on
        → sheet_discs shapes rows sheet ≡ map (disc_on sheet) (flat_map (row_dots shapes) (filter (is_on sheet) rows))
        → flat_map (row_discs shapes sheet) (cond on (row ∷ filter (is_on sheet) rows) (filter (is_on sheet) rows))
        ≡ map (disc_on sheet) (flat_map (row_dots shapes) (cond on (row ∷ filter (is_on sheet) rows) (filter (is_on sheet) rows)))
    by true on rest = grind (arith, common_steps, row_draws shapes sheet row on, rest)
    by false on rest = rest
