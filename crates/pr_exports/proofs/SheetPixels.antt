-- The pixels of a sheet are those of the rows that are on it.
use Rattle.std.proofs.Common.{◌≡◌, ℕ, zero, suc, ◌+◌, ◌-◌, ◌*◌, ◌/◌, ◌%◌, ◌^◌, ◌<◌, ◌≤◌, Bool, true, false, cond}
use Rattle.std.proofs.Common.{◌≢◌, ◌⊎◌, inl, inr, List, [], ◌∷◌, ◌++◌, map, refl, sym, ap, ◌∙◌, arith}
use Rattle.std.specs.Prelude.{◌==◌, ◌&&◌, ◌||◌, flat_map, nat_le, nat_lt, if◌then◌else◌}
use Rattle.std.specs.List.{list_any, range_with_len}
use Rattle.std.proofs.lemmas.Bool.{false_from_ne_true}
use Rattle.std.proofs.lemmas.Bool.Decides.{nat_tests}
use Rattle.std.proofs.lemmas.List.Folds.{list_any-append}
use Rattle.pr_page.specs.declared.paper.Paper.{Paper}
use Rattle.pr_page.specs.declared.paper.Placed.{Placed}
use Rattle.pr_page.specs.declared.paper.Row.{Row}
use Rattle.pr_dots.specs.Dots.{Dot, bit_dots, column_dots, columns_dots, columns_of, dots_of, row_dots}
use Rattle.pr_dots.specs.Scales.{pixels_of}
use Rattle.pr_dots.specs.Sheets.{is_on, rows_on}
use Rattle.pr_dots.specs.declared.character_sets.Shapes.{Shapes}
use Rattle.pr_dots.specs.declared.scale.Scale.{Scale}
use Rattle.pr_dots.specs.declared.scale.Scale.TheVariants.{One, Two, Three, Four, Five, Six, Seven, Eight}
use Rattle.pr_png.specs.Pixels.{bytes_of, covers, down, is_dark, is_printed, line_at, pixel, pixel_byte, pixel_line}
use Rattle.pr_png.specs.Pixels.{pixel_lines}
use Rattle.pr_png.specs.Png.{file_of, image, picture_of, sheet_height, sheet_png_of}
use Rattle.pr_png.specs.Deflating.{compressed}
use Rattle.pr_png.specs.Strips.{has_column, strip_part}
use Rattle.pr_png.specs.declared.look.Look.{Look}

-- dots are in a row at y
abbrev AreIn : ℕ → List Dot → Type 0
AreIn y [] = Unit {0}
AreIn y (dot ∷ dots) = (y ≤ dot.y) × (dot.y ≤ y + 12) × AreIn y dots

all_in : (y : ℕ) (dots more : List Dot) → AreIn y dots → AreIn y more → AreIn y (dots ++ more)
all_in y [] more a b = b
all_in y (dot ∷ dots) more a b = (a.0, a.1, all_in y dots more a.2 b)

bit_in : (x y b : ℕ) (set : Bool) → b ≤ 6
    → AreIn y (if set then record { x = x; y = y + 2 * b } ∷ [] else [])
bit_in x y b true low = (omega arith, omega (arith, low), tt)
bit_in x y b false low = tt

abbrev AreBits : List ℕ → Type 0
AreBits [] = Unit {0}
AreBits (b ∷ bits) = (b ≤ 6) × AreBits bits

bits_in : (x y value : ℕ) (bits : List ℕ) → AreBits bits → AreIn y (flat_map (bit_dots x y value) bits)
bits_in x y value [] low = tt
bits_in x y value (b ∷ bits) low =
    all_in y (bit_dots x y value b) (flat_map (bit_dots x y value) bits)
    (bit_in x y b (value / 2 ^ b % 2 == 1) low.0) (bits_in x y value bits low.1)

columns_in : (x y : ℕ) (values : List ℕ) → AreIn y (columns_dots x y values)
columns_in x y [] = tt
columns_in x y (value ∷ values) =
    all_in y (column_dots x y value) (columns_dots (x + 1) y values)
    (bits_in x y value (0 ∷ 1 ∷ 2 ∷ 3 ∷ 4 ∷ 5 ∷ 6 ∷ [])
    (omega arith, (omega arith, (omega arith, (omega arith, (omega arith, (omega arith, (omega arith, tt))))))))
    (columns_in (x + 1) y values)

marks_in : (shapes : Shapes) (y : ℕ) (marks : List Placed)
    → AreIn y (flat_map (λ p. columns_dots p.x y (columns_of shapes p.mark)) marks)
marks_in shapes y [] = tt
marks_in shapes y (p ∷ marks) =
    all_in y (columns_dots p.x y (columns_of shapes p.mark))
    (flat_map (λ p. columns_dots p.x y (columns_of shapes p.mark)) marks)
    (columns_in p.x y (columns_of shapes p.mark)) (marks_in shapes y marks)

-- lines of pixels of distances
line_later : (scale : Scale) (y z : ℕ) → y ≤ z → line_at scale y ≤ line_at scale z
line_later One y z le = omega (arith, le)
line_later Two y z le = omega (arith, le)
line_later Three y z le = omega (arith, le)
line_later Four y z le = omega (arith, le)
line_later Five y z le = omega (arith, le)
line_later Six y z le = omega (arith, le)
line_later Seven y z le = omega (arith, le)
line_later Eight y z le = omega (arith, le)

line_sum : (scale : Scale) (y n : ℕ) → line_at scale y + line_at scale (2 * n) ≡ line_at scale (y + 2 * n)
line_sum One y n = omega arith
line_sum Two y n = omega arith
line_sum Three y n = omega arith
line_sum Four y n = omega arith
line_sum Five y n = omega arith
line_sum Six y n = omega arith
line_sum Seven y n = omega arith
line_sum Eight y n = omega arith

two_lines : (scale : Scale) → line_at scale 2 ≡ pixels_of scale
two_lines One = refl
two_lines Two = refl
two_lines Three = refl
two_lines Four = refl
two_lines Five = refl
two_lines Six = refl
two_lines Seven = refl
two_lines Eight = refl

inside : (here : Bool) (from line to : ℕ) → (here && (nat_le from line && nat_lt line to)) ≡ true
    → (from ≤ line) × (line < to)
inside here from line to is = (grind (arith, nat_tests), grind (arith, nat_tests))

-- a row that is not on a sheet ends above it, or begins below it
neither : (one other : Bool) → (one || other) ≡ false → (one ≡ false) × (other ≡ false)
neither false false is = (refl, refl)
neither false true is = absurd (cc)
neither true other is = absurd (cc)

on_either_side : (sheet y : ℕ) (t : Bool) → nat_le (y + 14) (1386 * sheet) ≡ t → y / 1386 ≢ sheet
    → (y + 13) / 1386 ≢ sheet → (y + 14 ≤ 1386 * sheet) ⊎ (1386 * sheet + 1386 ≤ y)
on_either_side sheet y true is first last = inl (grind (arith, nat_tests, is))
on_either_side sheet y false is first last =
    let high : 1386 * sheet < y + 14 = grind (arith, nat_tests, is) in
    inr (omega (arith, high, first, last))

off_sheet : (sheet : ℕ) (row : Row) → is_on sheet row ≡ false
    → (row.y + 14 ≤ 1386 * sheet) ⊎ (1386 * sheet + 1386 ≤ row.y)
off_sheet sheet row is =
    let no = neither (row.y / 1386 == sheet) ((row.y + 13) / 1386 == sheet) is in
    let first : row.y / 1386 ≢ sheet = grind (arith, nat_tests, no.0) in
    let last : (row.y + 13) / 1386 ≢ sheet = grind (arith, nat_tests, no.1) in
    on_either_side sheet row.y (nat_le (row.y + 14) (1386 * sheet)) refl first last

not_above : (scale : Scale) (y z line sheet : ℕ) → y + 14 ≤ 1386 * sheet → z ≤ y + 12
    → line_at scale (1386 * sheet) ≤ line → line < line_at scale z + pixels_of scale → ⊥
not_above scale y z line sheet above low from to =
    let end = line_sum scale z 1 in
    let two = two_lines scale in
    let later = line_later scale (z + 2 * 1) (1386 * sheet) (omega (arith, above, low)) in
    absurd (omega (arith, end, two, later, from, to))

not_below : (scale : Scale) (y z line sheet : ℕ) → 1386 * sheet + 1386 ≤ y → y ≤ z
    → line < line_at scale (1386 * sheet) + sheet_height scale → line_at scale z ≤ line → ⊥
not_below scale y z line sheet below low to from =
    let end = line_sum scale (1386 * sheet) 693 in
    let later = line_later scale (1386 * sheet + 2 * 693) z (omega (arith, below, low)) in
    absurd (omega (arith, end, later, from, to))

not_covered : (scale : Scale) (column line sheet y : ℕ)
    → (y + 14 ≤ 1386 * sheet) ⊎ (1386 * sheet + 1386 ≤ y)
    → line_at scale (1386 * sheet) ≤ line → line < line_at scale (1386 * sheet) + sheet_height scale
    → (dots : List Dot) → AreIn y dots → list_any (covers scale column line) dots ≡ false
not_covered scale column line sheet y off from to [] at = refl
not_covered scale column line sheet y off from to (dot ∷ dots) at =
    let rest = not_covered scale column line sheet y off from to dots at.2 in
    let here : covers scale column line dot ≡ false =
    false_from_ne_true (covers scale column line dot) (λ is.
    let inside = inside (dot.x == column) (line_at scale dot.y) line (line_at scale dot.y + pixels_of scale) is in
    elim off [
      | inl above ↦ not_above scale y dot.y line sheet above at.1 from inside.1
      | inr below ↦ not_below scale y dot.y line sheet below at.0 to inside.0
    ]) in
    ap (λ b. b || list_any (covers scale column line) dots) here ∙ rest

one_row : (shapes : Shapes) (scale : Scale) (column line sheet : ℕ) (row : Row) (rows : List Row) (t : Bool)
    → is_on sheet row ≡ t
    → line_at scale (1386 * sheet) ≤ line → line < line_at scale (1386 * sheet) + sheet_height scale
    → list_any (covers scale column line) (flat_map (row_dots shapes) rows)
    ≡ list_any (covers scale column line) (flat_map (row_dots shapes) (rows_on sheet rows))
    → list_any (covers scale column line) (row_dots shapes row ++ flat_map (row_dots shapes) rows)
    ≡ list_any (covers scale column line)
    (flat_map (row_dots shapes) (cond t (row ∷ rows_on sheet rows) (rows_on sheet rows)))
one_row shapes scale column line sheet row rows true is from to more =
    list_any-append (covers scale column line) (row_dots shapes row) (flat_map (row_dots shapes) rows)
    ∙ ap (λ b. list_any (covers scale column line) (row_dots shapes row) || b) more
    ∙ sym (list_any-append (covers scale column line) (row_dots shapes row)
    (flat_map (row_dots shapes) (rows_on sheet rows)))
one_row shapes scale column line sheet row rows false is from to more =
    list_any-append (covers scale column line) (row_dots shapes row) (flat_map (row_dots shapes) rows)
    ∙ ap (λ b. b || list_any (covers scale column line) (flat_map (row_dots shapes) rows))
    (not_covered scale column line sheet row.y (off_sheet sheet row is) from to (row_dots shapes row)
    (marks_in shapes row.y row.marks))
    ∙ more

rows_printed : (shapes : Shapes) (scale : Scale) (column line sheet : ℕ) (rows : List Row)
    → line_at scale (1386 * sheet) ≤ line → line < line_at scale (1386 * sheet) + sheet_height scale
    → list_any (covers scale column line) (flat_map (row_dots shapes) rows)
    ≡ list_any (covers scale column line) (flat_map (row_dots shapes) (rows_on sheet rows))
rows_printed shapes scale column line sheet [] from to = refl
rows_printed shapes scale column line sheet (row ∷ rows) from to =
    one_row shapes scale column line sheet row rows (is_on sheet row) refl from to
    (rows_printed shapes scale column line sheet rows from to)

same_printed : (shapes : Shapes) (scale : Scale) (column line sheet : ℕ) (one other : Paper)
    → rows_on sheet one.rows ≡ rows_on sheet other.rows
    → line_at scale (1386 * sheet) ≤ line → line < line_at scale (1386 * sheet) + sheet_height scale
    → is_printed shapes one scale column line ≡ is_printed shapes other scale column line
unfolding is_printed dots_of
same_printed shapes scale column line sheet one other same from to =
    rows_printed shapes scale column line sheet one.rows from to
    ∙ ap (λ rows. list_any (covers scale column line) (flat_map (row_dots shapes) rows)) same
    ∙ sym (rows_printed shapes scale column line sheet other.rows from to)

-- papers whose dot columns are alike in a line have one line of pixels
abbrev AreAlike : (shapes : Shapes) (one other : Paper) (scale : Scale) (line : ℕ) → Type 0
AreAlike shapes one other scale line =
    (column : ℕ) → is_printed shapes one scale column line ≡ is_printed shapes other scale column line

same_dark : (shapes : Shapes) (one other : Paper) (look : Look) (column line : ℕ)
    → AreAlike shapes one other look.scale line
    → is_dark shapes one look column line ≡ is_dark shapes other look column line
unfolding is_dark
same_dark shapes one other look column line alike =
    ap (λ b. if look.holes
    then (if nat_lt column 60 then has_column (strip_part (down look.scale line)) column
    else (if nat_lt column 540 then b else has_column (strip_part (down look.scale line)) (599 - column)))
    else is_printed shapes one look.scale column line) (alike (column - 60))
    ∙ ap (λ b. if look.holes
    then (if nat_lt column 60 then has_column (strip_part (down look.scale line)) column
    else (if nat_lt column 540 then is_printed shapes other look.scale (column - 60) line
    else has_column (strip_part (down look.scale line)) (599 - column))) else b) (alike column)

same_pixel : (shapes : Shapes) (one other : Paper) (look : Look) (x line : ℕ)
    → AreAlike shapes one other look.scale line → pixel shapes one look x line ≡ pixel shapes other look x line
same_pixel shapes one other look x line alike =
    ap (λ b. if b then 0 else 1) (same_dark shapes one other look (x / pixels_of look.scale) line alike)

same_byte : (shapes : Shapes) (one other : Paper) (look : Look) (x line : ℕ)
    → AreAlike shapes one other look.scale line
    → pixel_byte shapes one look x line ≡ pixel_byte shapes other look x line
unfolding pixel_byte
same_byte shapes one other look x line alike =
    let at : (x : ℕ) → pixel shapes one look x line ≡ pixel shapes other look x line =
    λ x. same_pixel shapes one other look x line alike in
    omega (arith, at x, at (x + 1), at (x + 2), at (x + 3), at (x + 4), at (x + 5), at (x + 6), at (x + 7))

same_map : (f g : ℕ → ℕ) (xs : List ℕ) → ((x : ℕ) → f x ≡ g x) → map f xs ≡ map g xs
same_map f g [] same = refl
same_map f g (x ∷ xs) same = ap (λ y. y ∷ map f xs) (same x) ∙ ap (λ ys. g x ∷ ys) (same_map f g xs same)

same_line : (shapes : Shapes) (one other : Paper) (look : Look) (line : ℕ)
    → AreAlike shapes one other look.scale line → pixel_line shapes one look line ≡ pixel_line shapes other look line
unfolding pixel_line
same_line shapes one other look line alike =
    ap (λ l. 0 ∷ l) (same_map (λ k. pixel_byte shapes one look (8 * k) line)
    (λ k. pixel_byte shapes other look (8 * k) line) (range_with_len 0 (bytes_of look))
    (λ k. same_byte shapes one other look (8 * k) line alike))

same_lines : (f g : ℕ → List ℕ) (from count : ℕ)
    → ((line : ℕ) → from ≤ line → line < from + count → f line ≡ g line)
    → flat_map f (range_with_len from count) ≡ flat_map g (range_with_len from count)
same_lines f g from zero same = refl
same_lines f g from (suc count) same =
    ap (λ l. l ++ flat_map f (range_with_len (from + 1) count)) (same from (omega arith) (omega arith))
    ∙ ap (λ l. g from ++ l) (same_lines f g (from + 1) count
    (λ line low high. same line (omega (arith, low)) (omega (arith, high))))

-- papers with the same rows on a sheet have one picture of it
pub same_png : (shapes : Shapes) (look : Look) (sheet : ℕ) (one other : Paper)
    → rows_on sheet one.rows ≡ rows_on sheet other.rows
    → sheet_png_of shapes look one sheet ≡ sheet_png_of shapes look other sheet
unfolding picture_of image pixel_lines
same_png shapes look sheet one other same =
    let from = line_at look.scale (1386 * sheet) in
    ap (λ lines. file_of look (sheet_height look.scale) (compressed (1 + bytes_of look) lines))
    (same_lines (pixel_line shapes one look) (pixel_line shapes other look) from (sheet_height look.scale)
    (λ line low high. same_line shapes one other look line
    (λ column. same_printed shapes look.scale column line sheet one other same low high)))
