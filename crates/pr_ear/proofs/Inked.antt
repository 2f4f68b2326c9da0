-- Dots in the bitmap of a region.
use Rattle.std.proofs.Common.{◌≡◌, ◌≢◌, ℕ, ◌+◌, ◌-◌, ◌*◌, ◌/◌, ◌%◌, ◌<◌, ◌≤◌, Bool, true, false, List, [], ◌∷◌, ◌++◌, length, drop, map, inl, inr, refl, sym, ap, ◌∙◌, arith, append-nil, length-append, map-id}
use Rattle.std.specs.Prelude.{◌==◌, ◌&&◌, ◌||◌, flat_map, replicate, slice_index_or, slice_set, if◌then◌else◌}
use Rattle.std.specs.List.{list_any, range_with_len}
use Rattle.std.proofs.Math.Nat.{mul-le-mul_right, add-mul, mul_comm}
use Rattle.std.proofs.Math.Seq.{drop-append_seam}
use Rattle.std.proofs.lemmas.Bool.{cases_Bool}
use Rattle.std.proofs.lemmas.Bool.Decides.{eqb_tells, nat_tests}
use Rattle.std.proofs.lemmas.Grind.{common_steps, flat_map-append}
use Rattle.std.proofs.lemmas.List.{drop-set-lt, get_or-replicate, get_or-set_other, get_or-set_same, get_or_append_left, length-drop, length-replicate, length-set}
use Rattle.std.proofs.lemmas.List.Folds.{flat_map-map}
use Rattle.std.proofs.lemmas.List.FromFn.{map-range_with_len_more}
use Rattle.std.proofs.lemmas.Nat.{div-mul-add, mod-mul-add}
use Rattle.pr_page.specs.Marks.{in_row, marks_on}
use Rattle.pr_page.specs.declared.paper.Paper.{Paper}
use Rattle.pr_page.specs.declared.paper.Placed.{Placed}
use Rattle.pr_page.specs.declared.paper.Row.{Row}
use Rattle.pr_dots.specs.Dots.{Dot, bit_dots, dots_of, is_at, row_dots}
use Rattle.pr_dots.specs.declared.character_sets.Shapes.{Shapes}
use Rattle.pr_ear.specs.Drawing.{ShowsRegion, dots_of_marks, mark_dots, paper, pixels_in}
use Rattle.pr_ear.specs.Inking.{has_pixel, inked, inked_dot, inked_dots, place_in}
use Rattle.pr_ear.specs.declared.drawing.Region.{Region}

-- no dots
pub no_dots : (r : Region) (out : List ℕ) → inked_dots r [] out ≡ out
unfolding inked_dots
no_dots r out = refl

-- dots in two parts
pub inked_append : (r : Region) (ds es : List Dot) (out : List ℕ) → inked_dots r (ds ++ es) out ≡ inked_dots r es (inked_dots r ds out)
unfolding inked_dots
inked_append r [] es out = refl
inked_append r (d ∷ ds) es out = inked_append r ds es (inked_dot r d out)

-- one bit of a column more
pub bit-more : (r : Region) (x y value bit : ℕ) (before now after : List ℕ)
    → now ≡ inked_dots r (flat_map (bit_dots x y value) (range_with_len 0 bit)) before
    → after ≡ inked_dots r (bit_dots x y value bit) now
    → after ≡ inked_dots r (flat_map (bit_dots x y value) (range_with_len 0 (bit + 1))) before
bit-more r x y value bit before now after so_far one =
    let same : (n : ℕ) → map (λ k. k) (range_with_len 0 n) ≡ range_with_len 0 n = λ n. map-id (range_with_len 0 n) in
    let bits : range_with_len 0 (bit + 1) ≡ range_with_len 0 bit ++ bit ∷ [] =
    sym (same (bit + 1)) ∙ (map-range_with_len_more (λ k. k) 0 bit bit (omega arith) ∙ ap (λ ns. ns ++ bit ∷ []) (same bit)) in
    let dots : flat_map (bit_dots x y value) (range_with_len 0 (bit + 1))
    ≡ flat_map (bit_dots x y value) (range_with_len 0 bit) ++ flat_map (bit_dots x y value) (bit ∷ []) =
    ap (flat_map (bit_dots x y value)) bits ∙ flat_map-append (bit_dots x y value) (range_with_len 0 bit) (bit ∷ []) in
    grind (arith, common_steps, inked_append, so_far, one, dots)

-- dots in two parts, as rules
pub ruleset dots_in_parts = (common_steps, no_dots, inked_append)

-- a place is in the bitmap
pub in_bitmap : (w h column line : ℕ) → column < w → line < h → line * w + column < w * h
in_bitmap w h column line left above =
    let lines : (line + 1) * w ≤ h * w = mul-le-mul_right w (omega (arith, above)) in
    let one : (line + 1) * w ≡ line * w + 1 * w = add-mul line 1 w in
    let whole : h * w ≡ w * h = mul_comm h w in
    omega (arith, lines, one, whole, left)

-- a pixel of a region
pub within : (r : Region) (x y : ℕ) → has_pixel r x y ≡ true → (r.x ≤ x) × (x - r.x < r.width) × (r.y ≤ y) × (y - r.y < r.height)
within r x y is = grind (arith, nat_tests)

missed : (r : Region) (x y column line : ℕ) → column < r.width → line < r.height → has_pixel r x y ≡ false
    → (x == r.x + column && y == r.y + line) ≡ false
missed r x y column line left above out = grind (arith, nat_tests)

-- one place has one column and one line
same_place : (w a b column line : ℕ) → a < w → column < w → b * w + a ≡ line * w + column → (b ≡ line) × (a ≡ column)
same_place w a b column line left left' e = (
  sym (div-mul-add b w a left) ∙ ap (λ n. n / w) e ∙ div-mul-add line w column left',
  sym (mod-mul-add b w a left) ∙ ap (λ n. n % w) e ∙ mod-mul-add line w column left',
)

both : (x y a b : ℕ) → x ≡ a → y ≡ b → (x == a && y == b) ≡ true
both x y a b e f = grind (arith, nat_tests)

neither : (x y a b : ℕ) → (x ≡ a → y ≡ b → ⊥) → (x == a && y == b) ≡ false
neither x y a b differ = elim (eqb_tells x a) [
  | inl e ↦ elim (eqb_tells y b) [
    | inl f ↦ absurd (differ e.1 f.1)
    | inr f ↦ rw (e.0, f.0) refl
  ]
  | inr e ↦ rw e.0 refl
]

-- places are the same where their columns and lines are
place-test : (r : Region) (x y column line : ℕ) → has_pixel r x y ≡ true → column < r.width
    → (place_in r x y == line * r.width + column) ≡ (x == r.x + column && y == r.y + line)
place-test r x y column line is left =
    let there = within r x y is in
    elim (eqb_tells (place_in r x y) (line * r.width + column)) [
      | inl e ↦
          let same = same_place r.width (x - r.x) (y - r.y) column line there.1 left e.1 in
          let x-is : x ≡ r.x + column = omega (arith, there.0, same.1) in
          let y-is : y ≡ r.y + line = omega (arith, there.2, same.0) in
          rw e.0 (sym (both x y (r.x + column) (r.y + line) x-is y-is))
      | inr e ↦
          let differ : x ≡ r.x + column → y ≡ r.y + line → ⊥ =
          λ f g.
          let across : x - r.x ≡ column = omega (arith, f) in
          let down : y - r.y ≡ line = omega (arith, g) in
          e.1 (ap (λ b. b * r.width + (x - r.x)) down ∙ ap (λ a. line * r.width + a) across) in
          rw e.0 (sym (neither x y (r.x + column) (r.y + line) differ))
    ]

-- a pixel is dark, or as it was
abbrev dark_if : Bool → ℕ → ℕ
dark_if dark old = if dark then 0 else old

set-at : (out : List ℕ) (i j : ℕ) → i < length out → slice_index_or (slice_set out i 0) j 255 ≡ dark_if (i == j) (slice_index_or out j 255)
set-at out i j room = elim (eqb_tells i j) [
  | inl e ↦ rw (e.0, ← e.1) (get_or-set_same out i 0 255 room)
  | inr e ↦
      let other : j ≢ i = λ same. e.1 (sym same) in
      rw e.0 (get_or-set_other out i j 0 255 other)
]

inked-length : (r : Region) (x y : ℕ) (out : List ℕ) → length (inked r x y out) ≡ length out
inked-length r x y out = elim (cases_Bool (has_pixel r x y)) [
  | inl is ↦ rw is (length-set out (place_in r x y) 0)
  | inr outside ↦ rw outside refl
]

inked-at : (r : Region) (x y : ℕ) (out : List ℕ) (column line : ℕ) → r.width * r.height ≤ length out → column < r.width → line < r.height
    → slice_index_or (inked r x y out) (line * r.width + column) 255
    ≡ dark_if (x == r.x + column && y == r.y + line) (slice_index_or out (line * r.width + column) 255)
inked-at r x y out column line room left above = elim (cases_Bool (has_pixel r x y)) [
  | inl is ↦
      let there = within r x y is in
      let place : place_in r x y < r.width * r.height = in_bitmap r.width r.height (x - r.x) (y - r.y) there.1 there.3 in
      let inside : place_in r x y < length out = omega (arith, place, room) in
      rw is (set-at out (place_in r x y) (line * r.width + column) inside
      ∙ ap (λ b. dark_if b (slice_index_or out (line * r.width + column) 255)) (place-test r x y column line is left))
  | inr outside ↦ rw (outside, missed r x y column line left above outside) refl
]

inked-rest : (r : Region) (x y : ℕ) (out : List ℕ) → drop (r.width * r.height) (inked r x y out) ≡ drop (r.width * r.height) out
inked-rest r x y out = elim (cases_Bool (has_pixel r x y)) [
  | inl is ↦
      let there = within r x y is in
      rw is (drop-set-lt (r.width * r.height) out (place_in r x y) 0 (in_bitmap r.width r.height (x - r.x) (y - r.y) there.1 there.3))
  | inr outside ↦ rw outside refl
]

-- a dot covers two by two pixels
abbrev covers : (x y : ℕ) → Dot → Bool
covers x y dot = dot.x == x / 2 && (dot.y == y || dot.y + 1 == y)

halves : (x pixel : ℕ) → (2 * x == pixel || 2 * x + 1 == pixel) ≡ (x == pixel / 2)
halves x pixel = grind (arith, nat_tests)

four : (p q s t : Bool) (old : ℕ) → dark_if (q && t) (dark_if (p && t) (dark_if (q && s) (dark_if (p && s) old))) ≡ dark_if ((p || q) && (s || t)) old
four true true true true old = refl
four true true true false old = refl
four true true false true old = refl
four true true false false old = refl
four true false true true old = refl
four true false true false old = refl
four true false false true old = refl
four true false false false old = refl
four false true true true old = refl
four false true true false old = refl
four false true false true old = refl
four false true false false old = refl
four false false true true old = refl
four false false true false old = refl
four false false false true old = refl
four false false false false old = refl

dot-length : (r : Region) (d : Dot) (out : List ℕ) → length (inked_dot r d out) ≡ length out
dot-length r d out =
    let a = inked r (2 * d.x) d.y out in
    let b = inked r (2 * d.x + 1) d.y a in
    let c = inked r (2 * d.x) (d.y + 1) b in
    inked-length r (2 * d.x + 1) (d.y + 1) c ∙ inked-length r (2 * d.x) (d.y + 1) b ∙ inked-length r (2 * d.x + 1) d.y a ∙ inked-length r (2 * d.x) d.y out

dot-at : (r : Region) (d : Dot) (out : List ℕ) (column line : ℕ) → r.width * r.height ≤ length out → column < r.width → line < r.height
    → slice_index_or (inked_dot r d out) (line * r.width + column) 255
    ≡ dark_if (covers (r.x + column) (r.y + line) d) (slice_index_or out (line * r.width + column) 255)
dot-at r d out column line room left above =
    let a = inked r (2 * d.x) d.y out in
    let b = inked r (2 * d.x + 1) d.y a in
    let c = inked r (2 * d.x) (d.y + 1) b in
    let a-room : r.width * r.height ≤ length a = omega (arith, room, inked-length r (2 * d.x) d.y out) in
    let b-room : r.width * r.height ≤ length b = omega (arith, a-room, inked-length r (2 * d.x + 1) d.y a) in
    let c-room : r.width * r.height ≤ length c = omega (arith, b-room, inked-length r (2 * d.x) (d.y + 1) b) in
    let p = 2 * d.x == r.x + column in
    let q = 2 * d.x + 1 == r.x + column in
    let s = d.y == r.y + line in
    let t = d.y + 1 == r.y + line in
    let old = slice_index_or out (line * r.width + column) 255 in
    inked-at r (2 * d.x + 1) (d.y + 1) c column line c-room left above
    ∙ ap (dark_if (q && t)) (inked-at r (2 * d.x) (d.y + 1) b column line b-room left above)
    ∙ ap (λ v. dark_if (q && t) (dark_if (p && t) v)) (inked-at r (2 * d.x + 1) d.y a column line a-room left above)
    ∙ ap (λ v. dark_if (q && t) (dark_if (p && t) (dark_if (q && s) v))) (inked-at r (2 * d.x) d.y out column line room left above)
    ∙ four p q s t old
    ∙ ap (λ b. dark_if (b && (s || t)) old) (halves d.x (r.x + column))

dot-rest : (r : Region) (d : Dot) (out : List ℕ) → drop (r.width * r.height) (inked_dot r d out) ≡ drop (r.width * r.height) out
dot-rest r d out =
    let a = inked r (2 * d.x) d.y out in
    let b = inked r (2 * d.x + 1) d.y a in
    let c = inked r (2 * d.x) (d.y + 1) b in
    inked-rest r (2 * d.x + 1) (d.y + 1) c ∙ inked-rest r (2 * d.x) (d.y + 1) b ∙ inked-rest r (2 * d.x + 1) d.y a ∙ inked-rest r (2 * d.x) d.y out

-- dots, by the size of the buffer, its pixels and the rest of it
dots-length : (r : Region) (dots : List Dot) (out : List ℕ) → length (inked_dots r dots out) ≡ length out
unfolding inked_dots
dots-length r [] out = refl
dots-length r (d ∷ ds) out = dots-length r ds (inked_dot r d out) ∙ dot-length r d out

either_dark : (a b : Bool) (old : ℕ) → dark_if b (dark_if a old) ≡ dark_if (a || b) old
either_dark true true old = refl
either_dark true false old = refl
either_dark false b old = refl

dots-at : (r : Region) (dots : List Dot) (out : List ℕ) (column line : ℕ) → r.width * r.height ≤ length out → column < r.width → line < r.height
    → slice_index_or (inked_dots r dots out) (line * r.width + column) 255
    ≡ dark_if (list_any (covers (r.x + column) (r.y + line)) dots) (slice_index_or out (line * r.width + column) 255)
unfolding inked_dots
dots-at r [] out column line room left above = refl
dots-at r (d ∷ ds) out column line room left above =
    let room' : r.width * r.height ≤ length (inked_dot r d out) = omega (arith, room, dot-length r d out) in
    dots-at r ds (inked_dot r d out) column line room' left above
    ∙ ap (dark_if (list_any (covers (r.x + column) (r.y + line)) ds)) (dot-at r d out column line room left above)
    ∙ either_dark (covers (r.x + column) (r.y + line) d) (list_any (covers (r.x + column) (r.y + line)) ds) (slice_index_or out (line * r.width + column) 255)

dots-rest : (r : Region) (dots : List Dot) (out : List ℕ) → drop (r.width * r.height) (inked_dots r dots out) ≡ drop (r.width * r.height) out
unfolding inked_dots
dots-rest r [] out = refl
dots-rest r (d ∷ ds) out = dots-rest r ds (inked_dot r d out) ∙ dot-rest r d out

-- two tests of dots at once
any-either : (p q r : Dot → Bool) → ((d : Dot) → r d ≡ (p d || q d)) → (dots : List Dot)
    → list_any r dots ≡ (list_any p dots || list_any q dots)
any-either p q r either [] = refl
any-either p q r either (d ∷ ds) =
    ap (λ b. b || list_any r ds) (either d) ∙ ap (λ b. (p d || q d) || b) (any-either p q r either ds)
    ∙ moved (p d) (q d) (list_any p ds) (list_any q ds)
  where
    moved : (a b c d : Bool) → ((a || b) || (c || d)) ≡ ((a || c) || (b || d))
    moved true b c d = refl
    moved false true true d = refl
    moved false true false d = refl
    moved false false c d = refl

line-above : (n y : ℕ) → (n == y || n + 1 == y) ≡ (n == y || n == y - 1)
line-above n y = grind (arith, nat_tests)

two-lines : (x y : ℕ) (d : Dot) → covers x y d ≡ (is_at (x / 2) y d || is_at (x / 2) (y - 1) d)
two-lines x y d = ap (λ b. d.x == x / 2 && b) (line-above d.y y) ∙ each (d.x == x / 2) (d.y == y) (d.y == y - 1)
  where
    each : (a p q : Bool) → (a && (p || q)) ≡ ((a && p) || (a && q))
    each true p q = refl
    each false p q = refl

-- dots over what is under them
pub shows : (r : Region) (dots : List Dot) (under : ℕ → ℕ) (old first new : List ℕ) → r.width * r.height ≤ length old → length first ≡ length old
    → ((place : ℕ) → place < r.width * r.height → slice_index_or first place 255 ≡ under place)
    → drop (r.width * r.height) first ≡ drop (r.width * r.height) old → new ≡ inked_dots r dots first → ShowsRegion dots r under old new
shows r dots under old first new room whole is rest made =
    let fits : r.width * r.height ≤ length first = omega (arith, whole, room) in
    record {
      fits = room;
      pixels = λ column line left above.
          let place = in_bitmap r.width r.height column line left above in
          ap (λ (out : List ℕ). slice_index_or out (line * r.width + column) 255) made
          ∙ dots-at r dots first column line fits left above
          ∙ ap (dark_if (list_any (covers (r.x + column) (r.y + line)) dots)) (is (line * r.width + column) place)
          ∙ ap (λ b. dark_if b (under (line * r.width + column)))
          (any-either (is_at ((r.x + column) / 2) (r.y + line)) (is_at ((r.x + column) / 2) (r.y + line - 1)) (covers (r.x + column) (r.y + line)) (two-lines (r.x + column) (r.y + line)) dots);
      rest = ap (drop (r.width * r.height)) made ∙ dots-rest r dots first ∙ rest;
      size = ap length made ∙ dots-length r dots first ∙ whole;
    }

-- light places, and the rest as it was
abbrev lights : ℕ → List ℕ
lights n = replicate n 255

light-length : (n : ℕ) (old first : List ℕ) → n ≤ length old → first ≡ lights n ++ drop n old → length first ≡ length old
light-length n old first room blank =
    let size : length {A = ℕ} (replicate n 255) ≡ n = length-replicate {A = ℕ} n 255 in
    let all = length-append (replicate n 255) (drop n old) in
    let back = length-drop n old in
    ap length blank ∙ omega (arith, all, size, back, room)

light-at : (n : ℕ) (old first : List ℕ) (place : ℕ) → first ≡ lights n ++ drop n old → place < n → slice_index_or first place 255 ≡ 255
light-at n old first place blank inside =
    let size : length {A = ℕ} (replicate n 255) ≡ n = length-replicate {A = ℕ} n 255 in
    let front : place < length {A = ℕ} (replicate n 255) = omega (arith, inside, size) in
    ap (λ (out : List ℕ). slice_index_or out place 255) blank
    ∙ get_or_append_left (replicate n 255) (drop n old) 255 place front
    ∙ get_or-replicate n place 255 255 inside

light-rest : (n : ℕ) (old first : List ℕ) → first ≡ lights n ++ drop n old → drop n first ≡ drop n old
light-rest n old first blank =
    ap (λ n. drop n first) (sym (length-replicate n 255)) ∙ ap (drop (length (replicate n 255))) blank ∙ drop-append_seam (replicate n 255) (drop n old)

-- the dots of a page over light places
pub shows-page : (r : Region) (dots : List Dot) (n : ℕ) (old first new : List ℕ) → n ≡ r.width * r.height → n ≤ length old
    → first ≡ replicate n 255 ++ drop n old → new ≡ inked_dots r dots first → ShowsRegion dots r paper old new
shows-page r dots n old first new count room blank made =
    let fits : r.width * r.height ≤ length old = omega (arith, room, count) in
    let is : (place : ℕ) → place < r.width * r.height → slice_index_or first place 255 ≡ paper place =
    λ place inside. light-at n old first place blank (omega (arith, inside, count)) in
    shows r dots paper old first new fits (light-length n old first room blank) is
    (ap (λ n. drop n first) (sym count) ∙ light-rest n old first blank ∙ ap (λ n. drop n old) count) made

-- dots over what the buffer had
pub shows-marks : (r : Region) (dots : List Dot) (old new : List ℕ) → r.width * r.height ≤ length old
    → new ≡ inked_dots r dots old → ShowsRegion dots r (pixels_in old) old new
shows-marks r dots old new room made = shows r dots (pixels_in old) old old new room refl (λ place inside. refl) refl made

-- the dots of rows, by their marks
row-marks : (shapes : Shapes) (y : ℕ) (marks : List Placed) → dots_of_marks shapes (map (in_row y) marks) ≡ row_dots shapes (record { y = y; marks = marks })
row-marks shapes y marks = flat_map-map (mark_dots shapes) (in_row y) marks

rows-marks : (shapes : Shapes) (rows : List Row) →
    dots_of_marks shapes (flat_map (λ (row : Row). map (in_row row.y) row.marks) rows) ≡ flat_map (row_dots shapes) rows
rows-marks shapes [] = refl
rows-marks shapes (row ∷ rows) =
    let marks = flat_map (λ (row : Row). map (in_row row.y) row.marks) rows in
    flat_map-append (mark_dots shapes) (map (in_row row.y) row.marks) marks
    ∙ ap (λ dots. dots ++ dots_of_marks shapes marks) (row-marks shapes row.y row.marks)
    ∙ ap (λ dots. row_dots shapes row ++ dots) (rows-marks shapes rows)

-- the marks of a paper that holds none have its dots
pub page-dots : (shapes : Shapes) (paper : Paper) (y : ℕ) → paper.held ≡ [] → dots_of_marks shapes (marks_on paper y) ≡ dots_of shapes paper
unfolding dots_of
page-dots shapes paper y none =
    let marks = flat_map (λ (row : Row). map (in_row row.y) row.marks) paper.rows in
    ap (λ held. dots_of_marks shapes (marks ++ map (in_row y) held)) none
    ∙ ap (dots_of_marks shapes) (append-nil marks)
    ∙ rows-marks shapes paper.rows
