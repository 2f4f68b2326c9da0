-- Dots on a picture.
use Rattle.std.proofs.Common.{◌≡◌, ℕ, zero, suc, ◌+◌, ◌-◌, ◌*◌, ◌/◌, ◌%◌, ◌^◌, ◌<◌, ◌≤◌, Bool, true, false, List, [], ◌∷◌, ◌++◌, length, take, drop, inl, inr, ◌≢◌, refl, sym, ap, ◌∙◌, arith}
use Rattle.std.specs.Prelude.{◌==◌, ◌&&◌, ◌||◌, flat_map, nat_le, nat_lt, slice_index_or, slice_set, if◌then◌else◌}
use Rattle.std.specs.List.{list_any, range_with_len}
use Rattle.std.proofs.lemmas.Grind.{common_steps, flat_map-append}
use Rattle.std.proofs.lemmas.Bool.{cases_Bool}
use Rattle.std.proofs.lemmas.Bool.Decides.{eqb_tells, nat_tests}
use Rattle.std.proofs.lemmas.List.{get_or-set_other, get_or-set_same}
use Rattle.pr_page.specs.declared.paper.Paper.{Paper}
use Rattle.pr_page.specs.declared.paper.Placed.{Placed}
use Rattle.pr_page.specs.declared.paper.Row.{Row}
use Rattle.pr_dots.specs.Dots.{Dot, bit_dots, column_dots, columns_dots, columns_of, dots_of, row_dots}
use Rattle.pr_dots.specs.Scales.{pixels_of}
use Rattle.pr_dots.specs.Sheets.{lowered_row}
use Rattle.pr_dots.specs.declared.character_sets.Shapes.{Shapes}
use Rattle.pr_dots.specs.declared.scale.Scale.{Scale}
use Rattle.pr_dots.specs.declared.scale.Scale.TheVariants.{One, Two, Three, Four, Five, Six, Seven, Eight}
use Rattle.pr_png.specs.Marking.{darkened, darkened_lines, marked, is_near, ShowsExtent}
use Rattle.pr_png.specs.Pixels.{covers, is_printed, line_at}
use Rattle.pr_png.specs.declared.marking.Extent.{Extent}

-- one number more
pub range-more : (a n : ℕ) → range_with_len a (n + 1) ≡ range_with_len a n ++ (a + n) ∷ []
range-more a zero =
    let e : a ≡ a + 0 = omega arith in
    ap (λ n. n ∷ []) e
range-more a (suc n) =
    let e : suc n + 1 ≡ suc (n + 1) = omega arith in
    let f : a + 1 + n ≡ a + suc n = omega arith in
    rw (e, ← f) (ap (λ ns. a ∷ ns) (range-more (a + 1) n))

-- no dots
pub no_dots : (e : Extent) (dark : List Bool) → marked e [] dark ≡ dark
unfolding marked
no_dots e dark = refl

-- dots in two parts
pub marked_append : (e : Extent) (ds es : List Dot) (dark : List Bool) → marked e (ds ++ es) dark ≡ marked e es (marked e ds dark)
unfolding marked
marked_append e [] es dark = refl
marked_append e (d ∷ ds) es dark = marked_append e ds es (darkened_lines e d.x (line_at e.scale d.y) (pixels_of e.scale) dark)

-- one bit of a column more
pub bit-more : (e : Extent) (x y value bit : ℕ) (before now after : List Bool)
    → now ≡ marked e (flat_map (bit_dots x y value) (range_with_len 0 bit)) before
    → after ≡ marked e (bit_dots x y value bit) now
    → after ≡ marked e (flat_map (bit_dots x y value) (range_with_len 0 (bit + 1))) before
bit-more e x y value bit before now after so_far one =
    let zero-first : 0 + bit ≡ bit = omega arith in
    let bits : range_with_len 0 (bit + 1) ≡ range_with_len 0 bit ++ bit ∷ [] = rw (range-more 0 bit, zero-first) refl in
    let dots : flat_map (bit_dots x y value) (range_with_len 0 (bit + 1))
    ≡ flat_map (bit_dots x y value) (range_with_len 0 bit) ++ flat_map (bit_dots x y value) (bit ∷ []) =
    ap (flat_map (bit_dots x y value)) bits ∙ flat_map-append (bit_dots x y value) (range_with_len 0 bit) (bit ∷ []) in
    grind (arith, common_steps, marked_append, so_far, one, dots)

-- no further line, and one more
pub no_lines_more : (e : Extent) (column line count : ℕ) (dark : List Bool) → count ≤ 0 → darkened_lines e column line count dark ≡ dark
unfolding darkened_lines
no_lines_more e column line zero dark none = refl
no_lines_more e column line (suc count) dark none = absurd (omega (arith, none))

pub lines_more : (e : Extent) (column line count next : ℕ) (dark : List Bool) → next < count
    → darkened_lines e column (line + next) (count - next) dark
    ≡ darkened_lines e column (line + (next + 1)) (count - (next + 1)) (darkened e column (line + next) dark)
unfolding darkened_lines
lines_more e column line count next dark less =
    let more : count - next ≡ suc (count - (next + 1)) = omega (arith, less) in
    let on : line + next + 1 ≡ line + (next + 1) = omega arith in
    ap (λ n. darkened_lines e column (line + next) n dark) more
    ∙ ap (λ l. darkened_lines e column l (count - (next + 1)) (darkened e column (line + next) dark)) on

pub ruleset lines_in_parts = (common_steps, no_lines_more, lines_more)

-- a dot column that is darkened, place by place; the number of places stays
darkened-length : (e : Extent) (x y : ℕ) (dark : List Bool) → length (darkened e x y dark) ≡ length dark
darkened-length e x y dark = grind (arith, common_steps)

lines-length : (e : Extent) (x y n : ℕ) (dark : List Bool) → length (darkened_lines e x y n dark) ≡ length dark
unfolding darkened_lines
lines-length e x y zero dark = refl
lines-length e x y (suc n) dark = lines-length e x (y + 1) n (darkened e x y dark) ∙ darkened-length e x y dark

pub marked-length : (e : Extent) (dots : List Dot) (dark : List Bool) → length (marked e dots dark) ≡ length dark
unfolding marked
marked-length e [] dark = refl
marked-length e (d ∷ ds) dark =
    marked-length e ds (darkened_lines e d.x (line_at e.scale d.y) (pixels_of e.scale) dark)
    ∙ lines-length e d.x (line_at e.scale d.y) (pixels_of e.scale) dark

or-false : (b : Bool) → b ≡ (b || false)
or-false true = refl
or-false false = refl

or-true : (b : Bool) → true ≡ (b || true)
or-true true = refl
or-true false = refl

set-at : (dark : List Bool) (i j : ℕ) → i < length dark
    → slice_index_or (slice_set dark i true) j false ≡ (slice_index_or dark j false || (i == j))
set-at dark i j within = elim (eqb_tells i j) [
  | inl e ↦ rw (e.0, ← e.1) (get_or-set_same dark i true false within ∙ or-true (slice_index_or dark i false))
  | inr e ↦
      let other : j ≢ i = λ same. e.1 (sym same) in
      rw e.0 (get_or-set_other dark i j true false other ∙ or-false (slice_index_or dark j false))
]

-- places are the same where their columns and lines are
place-test : (top x y column line : ℕ) → top ≤ y → x < 480 → column < 480
    → ((y - top) * 480 + x == line * 480 + column) ≡ (x == column && y == top + line)
place-test top x y column line above left right = grind (arith, nat_tests)

missed : (top count x y column line : ℕ) → column < 480 → line < count
    → (nat_lt x 480 && (nat_le top y && nat_lt (y - top) count)) ≡ false → (x == column && y == top + line) ≡ false
missed top count x y column line narrow short out = grind (arith, nat_tests)

on-picture : (top count x y : ℕ) → (nat_lt x 480 && (nat_le top y && nat_lt (y - top) count)) ≡ true
    → (top ≤ y) × (x < 480) × ((y - top) * 480 + x < 480 * count)
on-picture top count x y is = grind (arith, nat_tests)

darkened-at : (e : Extent) (x y : ℕ) (dark : List Bool) (column line : ℕ) → length dark ≡ 480 * e.count → column < 480 → line < e.count
    → slice_index_or (darkened e x y dark) (line * 480 + column) false
    ≡ (slice_index_or dark (line * 480 + column) false || (x == column && y == e.top + line))
darkened-at e x y dark column line whole narrow short =
    elim (cases_Bool (nat_lt x 480 && (nat_le e.top y && nat_lt (y - e.top) e.count))) [
      | inl is ↦
          let there = on-picture e.top e.count x y is in
          let within : (y - e.top) * 480 + x < length dark = omega (arith, there.2, whole) in
          rw is (set-at dark ((y - e.top) * 480 + x) (line * 480 + column) within
          ∙ ap (λ b. slice_index_or dark (line * 480 + column) false || b) (place-test e.top x y column line there.0 there.1 narrow))
      | inr out ↦
          rw out (or-false (slice_index_or dark (line * 480 + column) false)
          ∙ ap (λ b. slice_index_or dark (line * 480 + column) false || b) (sym (missed e.top e.count x y column line narrow short out)))
    ]

-- several lines: none, or the first and those after it
no-line : (x column y t : ℕ) → (x == column && (nat_le y t && nat_lt t (y + 0))) ≡ false
no-line x column y t = grind (arith, nat_tests)

first-line : (y t n : ℕ) → (nat_le y t && nat_lt t (y + suc n)) ≡ (y == t || (nat_le (y + 1) t && nat_lt t (y + 1 + n)))
first-line y t n = grind (arith, nat_tests)

either-line : (b here first later : Bool) → ((b || (here && first)) || (here && later)) ≡ (b || (here && (first || later)))
either-line true here first later = refl
either-line false true true later = refl
either-line false true false later = refl
either-line false false first later = refl

lines-at : (e : Extent) (x y n : ℕ) (dark : List Bool) (column line : ℕ) → length dark ≡ 480 * e.count → column < 480 → line < e.count
    → slice_index_or (darkened_lines e x y n dark) (line * 480 + column) false
    ≡ (slice_index_or dark (line * 480 + column) false || (x == column && (nat_le y (e.top + line) && nat_lt (e.top + line) (y + n))))
unfolding darkened_lines
lines-at e x y zero dark column line whole narrow short =
    or-false (slice_index_or dark (line * 480 + column) false)
    ∙ ap (λ b. slice_index_or dark (line * 480 + column) false || b) (sym (no-line x column y (e.top + line)))
lines-at e x y (suc n) dark column line whole narrow short =
    lines-at e x (y + 1) n (darkened e x y dark) column line (darkened-length e x y dark ∙ whole) narrow short
    ∙ ap (λ b. b || (x == column && (nat_le (y + 1) (e.top + line) && nat_lt (e.top + line) (y + 1 + n)))) (darkened-at e x y dark column line whole narrow short)
    ∙ either-line (slice_index_or dark (line * 480 + column) false) (x == column) (y == e.top + line) (nat_le (y + 1) (e.top + line) && nat_lt (e.top + line) (y + 1 + n))
    ∙ ap (λ b. slice_index_or dark (line * 480 + column) false || (x == column && b)) (sym (first-line y (e.top + line) n))

or-grouped : (a b c : Bool) → ((a || b) || c) ≡ (a || (b || c))
or-grouped true b c = refl
or-grouped false b c = refl

-- a place is dark if it was, or if a dot covers it
marked-at : (e : Extent) (dots : List Dot) (dark : List Bool) (column line : ℕ) → length dark ≡ 480 * e.count → column < 480 → line < e.count
    → slice_index_or (marked e dots dark) (line * 480 + column) false
    ≡ (slice_index_or dark (line * 480 + column) false || list_any (covers e.scale column (e.top + line)) dots)
unfolding marked
marked-at e [] dark column line whole narrow short = or-false (slice_index_or dark (line * 480 + column) false)
marked-at e (d ∷ ds) dark column line whole narrow short =
    let once : List Bool = darkened_lines e d.x (line_at e.scale d.y) (pixels_of e.scale) dark in
    let once-whole : length once ≡ 480 * e.count = lines-length e d.x (line_at e.scale d.y) (pixels_of e.scale) dark ∙ whole in
    marked-at e ds once column line once-whole narrow short
    ∙ ap (λ b. b || list_any (covers e.scale column (e.top + line)) ds) (lines-at e d.x (line_at e.scale d.y) (pixels_of e.scale) dark column line whole narrow short)
    ∙ or-grouped (slice_index_or dark (line * 480 + column) false) (covers e.scale column (e.top + line) d) (list_any (covers e.scale column (e.top + line)) ds)

-- the dots of a paper on a blank picture
pub shows : (shapes : Shapes) (paper : Paper) (e : Extent) (blank dark : List Bool) → length blank ≡ 480 * e.count
    → ((place : ℕ) → slice_index_or blank place false ≡ false)
    → dark ≡ marked e (flat_map (row_dots shapes) paper.rows) blank → ShowsExtent shapes paper e dark
unfolding is_printed dots_of
shows shapes paper e blank dark whole white made = record {
  whole = ap length made ∙ marked-length e (flat_map (row_dots shapes) paper.rows) blank ∙ whole;
  shows = λ column line narrow short.
      ap (λ (d : List Bool). slice_index_or d (line * 480 + column) false) made
      ∙ marked-at e (flat_map (row_dots shapes) paper.rows) blank column line whole narrow short
      ∙ ap (λ b. b || list_any (covers e.scale column (e.top + line)) (flat_map (row_dots shapes) paper.rows)) (white (line * 480 + column));
}

-- a place that is not on the picture is not darkened
lines-apart : (e : Extent) (x y n : ℕ) (dark : List Bool)
    → ((k : ℕ) → y ≤ k → k < y + n → (nat_lt x 480 && (nat_le e.top k && nat_lt (k - e.top) e.count)) ≡ false)
    → darkened_lines e x y n dark ≡ dark
unfolding darkened_lines
lines-apart e x y zero dark out = refl
lines-apart e x y (suc n) dark out =
    let first : darkened e x y dark ≡ dark = rw (out y (omega arith) (omega arith)) refl in
    ap (darkened_lines e x (y + 1) n) first
    ∙ lines-apart e x (y + 1) n dark (λ k from below. out k (omega (arith, from)) (omega (arith, below)))

out-of-reach : (scale : Scale) (top count x y b k : ℕ)
    → (nat_lt top (line_at scale (y + 14)) && nat_lt (line_at scale y) (top + count)) ≡ false → b < 7
    → line_at scale (y + 2 * b) ≤ k → k < line_at scale (y + 2 * b) + pixels_of scale
    → (nat_lt x 480 && (nat_le top k && nat_lt (k - top) count)) ≡ false
out-of-reach One top count x y b k far low from below = grind (arith, nat_tests)
out-of-reach Two top count x y b k far low from below = grind (arith, nat_tests)
out-of-reach Three top count x y b k far low from below = grind (arith, nat_tests)
out-of-reach Four top count x y b k far low from below = grind (arith, nat_tests)
out-of-reach Five top count x y b k far low from below = grind (arith, nat_tests)
out-of-reach Six top count x y b k far low from below = grind (arith, nat_tests)
out-of-reach Seven top count x y b k far low from below = grind (arith, nat_tests)
out-of-reach Eight top count x y b k far low from below = grind (arith, nat_tests)

far-dot : (set : Bool) (e : Extent) (x y b : ℕ) (dark : List Bool) → is_near e y ≡ false → b < 7
    → marked e (if set then record { x = x; y = y + 2 * b } ∷ [] else []) dark ≡ dark
unfolding marked
far-dot true e x y b dark far low =
    lines-apart e x (line_at e.scale (y + 2 * b)) (pixels_of e.scale) dark
    (λ k from below. out-of-reach e.scale e.top e.count x y b k far low from below)
far-dot false e x y b dark far low = refl

far-bit : (e : Extent) (x y value b : ℕ) (dark : List Bool) → is_near e y ≡ false → b < 7 → marked e (bit_dots x y value b) dark ≡ dark
far-bit e x y value b dark far low = far-dot (value / 2 ^ b % 2 == 1) e x y b dark far low

far-append : (e : Extent) (ds es : List Dot) (dark : List Bool) → marked e ds dark ≡ dark → marked e es dark ≡ dark → marked e (ds ++ es) dark ≡ dark
far-append e ds es dark first second = marked_append e ds es dark ∙ ap (marked e es) first ∙ second

far-bits : (e : Extent) (x y value a n : ℕ) (dark : List Bool) → is_near e y ≡ false → a + n ≤ 7
    → marked e (flat_map (bit_dots x y value) (range_with_len a n)) dark ≡ dark
far-bits e x y value a zero dark far few = no_dots e dark
far-bits e x y value a (suc n) dark far few =
    let low : a < 7 = omega arith in
    let fewer : a + 1 + n ≤ 7 = omega arith in
    far-append e (bit_dots x y value a) (flat_map (bit_dots x y value) (range_with_len (a + 1) n)) dark
    (far-bit e x y value a dark far low) (far-bits e x y value (a + 1) n dark far fewer)

far-column : (e : Extent) (x y value : ℕ) (dark : List Bool) → is_near e y ≡ false → marked e (column_dots x y value) dark ≡ dark
far-column e x y value dark far =
    let seven : 0 + 7 ≤ 7 = omega arith in
    far-bits e x y value 0 7 dark far seven

far-columns : (e : Extent) (x y : ℕ) (values : List ℕ) (dark : List Bool) → is_near e y ≡ false → marked e (columns_dots x y values) dark ≡ dark
far-columns e x y [] dark far = no_dots e dark
far-columns e x y (v ∷ values) dark far =
    far-append e (column_dots x y v) (columns_dots (x + 1) y values) dark
    (far-column e x y v dark far) (far-columns e (x + 1) y values dark far)

far-marks : (shapes : Shapes) (e : Extent) (y : ℕ) (marks : List Placed) (dark : List Bool) → is_near e y ≡ false
    → marked e (flat_map (λ p. columns_dots p.x y (columns_of shapes p.mark)) marks) dark ≡ dark
far-marks shapes e y [] dark far = no_dots e dark
far-marks shapes e y (p ∷ marks) dark far =
    far-append e (columns_dots p.x y (columns_of shapes p.mark)) (flat_map (λ p. columns_dots p.x y (columns_of shapes p.mark)) marks) dark
    (far-columns e p.x y (columns_of shapes p.mark) dark far) (far-marks shapes e y marks dark far)

-- a row that is not near has no dot on the picture
pub far_row : (shapes : Shapes) (e : Extent) (above : ℕ) (row : Row) (dark : List Bool) → is_near e (row.y + 21 * above) ≡ false
    → marked e (row_dots shapes (lowered_row above row)) dark ≡ dark
far_row shapes e above row dark far = far-marks shapes e (row.y + 21 * above) row.marks dark far

-- dots in two parts, and rows that have none
pub ruleset dots_in_parts = (common_steps, no_dots, marked_append, far_row)

-- what a change of all items of a vector leaves
pub written-back : (len : ℕ) (now before : List Bool) → length now ≡ length before → len ≡ length before
    → take len (now ++ drop (length now) before) ≡ now
written-back len now before kept at = grind (arith, common_steps)
