-- The picture of a paper ends below its dots.
use Rattle.std.proofs.Common.{◌≡◌, ℕ, zero, suc, ◌+◌, ◌*◌, ◌/◌, ◌%◌, ◌^◌, ◌<◌, ◌≤◌, Bool, true, false, List, [], ◌∷◌, inl, inr, max, arith}
use Rattle.std.specs.Prelude.{◌==◌, ◌&&◌, ◌||◌, flat_map, nat_le, nat_lt, if◌then◌else◌}
use Rattle.std.specs.List.{list_any, range_with_len}
use Rattle.std.proofs.lemmas.Bool.{false_from_ne_true, false≢true}
use Rattle.std.proofs.lemmas.Bool.Decides.{nat_tests}
use Rattle.pr_page.specs.declared.paper.Placed.{Placed}
use Rattle.pr_page.specs.declared.paper.Row.{Row}
use Rattle.pr_dots.specs.Dots.{bit_dots, column_dots, columns_dots, columns_of, dots_of, row_dots}
use Rattle.pr_dots.specs.Scales.{pixels_of}
use Rattle.pr_dots.specs.Sheets.{line_count}
use Rattle.pr_dots.specs.declared.character_sets.Shapes.{Shapes}
use Rattle.pr_dots.specs.declared.scale.Scale.{Scale}
use Rattle.pr_dots.specs.declared.scale.Scale.TheVariants.{One, Two, Three, Four, Five, Six, Seven, Eight}
use Rattle.pr_png.specs.Laws.{PaperHasAllDots}
use Rattle.pr_png.specs.Pixels.{covers, is_printed, line_at}
use Rattle.pr_png.proofs.Apart.{in-part}

-- lines of pixels of distances that grow
line-grows : (scale : Scale) (y z : ℕ) → y ≤ z → line_at scale y ≤ line_at scale z
line-grows One y z le = omega (arith, le)
line-grows Two y z le = omega (arith, le)
line-grows Three y z le = omega (arith, le)
line-grows Four y z le = omega (arith, le)
line-grows Five y z le = omega (arith, le)
line-grows Six y z le = omega (arith, le)
line-grows Seven y z le = omega (arith, le)
line-grows Eight y z le = omega (arith, le)

-- the lines of a dot end where the next place begins
dot-ends : (scale : Scale) (y : ℕ) → line_at scale y + pixels_of scale ≡ line_at scale (y + 2)
dot-ends One y = omega arith
dot-ends Two y = omega arith
dot-ends Three y = omega arith
dot-ends Four y = omega arith
dot-ends Five y = omega arith
dot-ends Six y = omega arith
dot-ends Seven y = omega arith
dot-ends Eight y = omega arith

tested : (here : Bool) (from line to : ℕ) → ((here && (nat_le from line && nat_lt line to)) || false) ≡ true → line < to
tested here from line to is = grind (arith, nat_tests)

bit-below : (set : Bool) (scale : Scale) (column line x z : ℕ) → list_any (covers scale column line) (if set then record { x = x; y = z } ∷ [] else []) ≡ true
    → line < line_at scale (z + 2)
bit-below true scale column line x z is =
    let above = tested (x == column) (line_at scale z) line (line_at scale z + pixels_of scale) is in
    omega (arith, above, dot-ends scale z)
bit-below false scale column line x z is = absurd (false≢true is)

bits-below : (scale : Scale) (column line x y value a n : ℕ) → a + n ≤ 7
    → list_any (covers scale column line) (flat_map (bit_dots x y value) (range_with_len a n)) ≡ true → line < line_at scale (y + 14)
bits-below scale column line x y value a zero few is = absurd (false≢true is)
bits-below scale column line x y value a (suc n) few is =
    elim (in-part (covers scale column line) (bit_dots x y value a) (flat_map (bit_dots x y value) (range_with_len (a + 1) n)) is) [
      | inl here ↦ omega (arith, bit-below (value / 2 ^ a % 2 == 1) scale column line x (y + 2 * a) here, line-grows scale (y + 2 * a + 2) (y + 14) (omega (arith, few)))
      | inr there ↦ bits-below scale column line x y value (a + 1) n (omega (arith, few)) there
    ]

columns-below : (scale : Scale) (column line x y : ℕ) (values : List ℕ) → list_any (covers scale column line) (columns_dots x y values) ≡ true
    → line < line_at scale (y + 14)
columns-below scale column line x y [] is = absurd (false≢true is)
columns-below scale column line x y (v ∷ values) is =
    elim (in-part (covers scale column line) (column_dots x y v) (columns_dots (x + 1) y values) is) [
      | inl here ↦ bits-below scale column line x y v 0 7 (omega arith) here
      | inr there ↦ columns-below scale column line (x + 1) y values there
    ]

marks-below : (shapes : Shapes) (scale : Scale) (column line y : ℕ) (marks : List Placed)
    → list_any (covers scale column line) (flat_map (λ p. columns_dots p.x y (columns_of shapes p.mark)) marks) ≡ true → line < line_at scale (y + 14)
marks-below shapes scale column line y [] is = absurd (false≢true is)
marks-below shapes scale column line y (p ∷ marks) is =
    elim (in-part (covers scale column line) (columns_dots p.x y (columns_of shapes p.mark)) (flat_map (λ p. columns_dots p.x y (columns_of shapes p.mark)) marks) is) [
      | inl here ↦ columns-below scale column line p.x y (columns_of shapes p.mark) here
      | inr there ↦ marks-below shapes scale column line y marks there
    ]

row-lines : (y lines : ℕ) → y + 14 ≤ 21 * max ((y + 41) / 21) lines
row-lines y lines = omega arith

more-lines : (first lines : ℕ) → 21 * lines ≤ 21 * max first lines
more-lines first lines = omega arith

rows-below : (shapes : Shapes) (scale : Scale) (column line : ℕ) (rows : List Row) → list_any (covers scale column line) (flat_map (row_dots shapes) rows) ≡ true
    → line < line_at scale (21 * line_count rows)
rows-below shapes scale column line [] is = absurd (false≢true is)
rows-below shapes scale column line (r ∷ rows) is =
    elim (in-part (covers scale column line) (row_dots shapes r) (flat_map (row_dots shapes) rows) is) [
      | inl here ↦ omega (arith, marks-below shapes scale column line r.y r.marks here, line-grows scale (r.y + 14) (21 * line_count (r ∷ rows)) (row-lines r.y (line_count rows)))
      | inr there ↦ omega (
        arith,
        rows-below shapes scale column line rows there,
        line-grows scale (21 * line_count rows) (21 * line_count (r ∷ rows)) (more-lines ((r.y + 41) / 21) (line_count rows)),
      )
    ]

pub all-dots : PaperHasAllDots
unfolding is_printed dots_of
all-dots shapes paper scale column line below =
    false_from_ne_true (list_any (covers scale column line) (flat_map (row_dots shapes) paper.rows))
    (λ is. omega (
      arith,
      below,
      rows-below shapes scale column line paper.rows is,
      line-grows scale (21 * line_count paper.rows) (21 * max 1 (line_count paper.rows)) (more-lines 1 (line_count paper.rows)),
    ))
