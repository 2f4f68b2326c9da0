-- The marks that a carriage makes beside a sheet.
use Rattle.std.proofs.Common.{◌≡◌, ℕ, zero, suc, Bool, true, List, [], ◌∷◌, ◌++◌, map, refl, sym, ap, ◌∙◌, subst, append_assoc, arith, ◌+◌, ◌-◌, ◌≤◌, ◌<◌, length, get_or, length-append}
use Rattle.std.specs.Prelude.{flat_map, replicate, slice_get, Some, None}
use Rattle.std.proofs.lemmas.List.{append-nil, map-append, get_or_append_left, get_or-append-add}
use Rattle.std.proofs.lemmas.Grind.{flat_map-append}
use Rattle.std.proofs.lemmas.Option.{slice_get_past, slice_get_read}
use Rattle.pr_page.specs.Acts.{Print}
use Rattle.pr_page.specs.Marks.{in_row, marks_from, marks_made}
use Rattle.pr_page.specs.Steps.{columns_from, ended, sheet_after_all}
use Rattle.pr_page.specs.Striking.{Adds, IsInLine, Makes, marks_of_sheet}
use Rattle.pr_page.specs.declared.carriage.Carriage.{Carriage}
use Rattle.pr_page.specs.declared.carriage.Made.{Made}
use Rattle.pr_page.specs.declared.carriage.MarkOnPaper.{MarkOnPaper}
use Rattle.pr_page.specs.declared.paper.Mark.{Mark}
use Rattle.pr_page.specs.declared.paper.Mark.TheVariants.{Dots}
use Rattle.pr_page.specs.declared.paper.Placed.{Placed}
use Rattle.pr_page.specs.declared.paper.Row.{Row}
use Rattle.pr_page.specs.declared.sheet.Sheet.{Sheet}
use Rattle.pr_page.proofs.Columns.{fits, over_count, with_columns}

-- marks side by side, by their number and one by one
pub length-marks_from : (y x : ℕ) (mark : Mark) (n : ℕ) → length (marks_from y x mark n) ≡ n
length-marks_from y x mark zero = refl
length-marks_from y x mark (suc n) = ap suc (length-marks_from y (x + 1) mark n)

pub get-marks_from : (y x : ℕ) (mark : Mark) (n i : ℕ) (d : MarkOnPaper) → i < n → get_or (marks_from y x mark n) i d ≡ record { y = y; x = x + i; mark = mark }
get-marks_from y x mark zero i d h = absurd (omega (arith, h))
get-marks_from y x mark (suc n) zero d h = let e : x ≡ x + zero = omega arith in ap (λ x. record { y = y; x = x; mark = mark }) e
get-marks_from y x mark (suc n) (suc i) d h =
    let e : (x + 1) + i ≡ x + suc i = omega arith in
    let less : i < n = omega (arith, h) in
    get-marks_from y (x + 1) mark n i d less ∙ ap (λ x. record { y = y; x = x; mark = mark }) e

-- a mark of the line, a mark of the next one, and none
pub get_here : (y x n below m i : ℕ) (mark : Mark) → i < n → slice_get (marks_from y x mark n ++ marks_from below 0 mark m) i ≡ Some (record { y = y; x = x + i; mark = mark })
get_here y x n below m i mark h =
    let here = marks_from y x mark n in
    let d : MarkOnPaper = record { y = y; x = x + i; mark = mark } in
    let count = length-marks_from y x mark n in
    let many = length-append here (marks_from below 0 mark m) in
    let inside : i < length here = omega (arith, h, count) in
    let within : i < length (here ++ marks_from below 0 mark m) = omega (arith, inside, many) in
    slice_get_read (here ++ marks_from below 0 mark m) _ i d refl within
    (sym (get_or_append_left here (marks_from below 0 mark m) d i inside ∙ get-marks_from y x mark n i d h))

pub get_next : (y x n below m i : ℕ) (mark : Mark) → n ≤ i → i - n < m → slice_get (marks_from y x mark n ++ marks_from below 0 mark m) i ≡ Some (record { y = below; x = i - n; mark = mark })
get_next y x n below m i mark h k =
    let here = marks_from y x mark n in
    let next = marks_from below 0 mark m in
    let d : MarkOnPaper = record { y = below; x = i - n; mark = mark } in
    let count = length-marks_from y x mark n in
    let count' = length-marks_from below 0 mark m in
    let many = length-append here next in
    let at : length here + (i - n) ≡ i = omega (arith, h, count) in
    let within : i < length (here ++ next) = omega (arith, h, k, count, count', many) in
    let zero_add : 0 + (i - n) ≡ i - n = omega arith in
    slice_get_read (here ++ next) _ i d refl within
    (sym (ap (λ i. get_or (here ++ next) i d) (sym at) ∙ get_or-append-add here next (i - n) d ∙ get-marks_from below 0 mark m (i - n) d k
    ∙ ap (λ x. record { y = below; x = x; mark = mark }) zero_add))

pub get_none : (y x n below m i : ℕ) (mark : Mark) → n + m ≤ i → slice_get (marks_from y x mark n ++ marks_from below 0 mark m) i ≡ None
get_none y x n below m i mark h =
    let count = length-marks_from y x mark n in
    let count' = length-marks_from below 0 mark m in
    let many = length-append (marks_from y x mark n) (marks_from below 0 mark m) in
    let past : length (marks_from y x mark n ++ marks_from below 0 mark m) ≤ i = omega (arith, h, count, count', many) in
    slice_get_past _ i past

pub length_both : (y x n below m : ℕ) (mark : Mark) → length (marks_from y x mark n ++ marks_from below 0 mark m) ≡ n + m
length_both y x n below m mark =
    let many = length-append (marks_from y x mark n) (marks_from below 0 mark m) in
    let count = length-marks_from y x mark n in
    let count' = length-marks_from below 0 mark m in
    omega (arith, many, count, count')

-- columns of dots as marks of a row
columns_in_row : (y x dots n : ℕ) → map (in_row y) (columns_from x dots n) ≡ marks_from y x (Dots dots) n
columns_in_row y x dots zero = refl
columns_in_row y x dots (suc n) = ap (λ (marks : List MarkOnPaper). record { y = y; x = x; mark = Dots dots } ∷ marks) (columns_in_row y (x + 1) dots n)

-- marks added to the line
held_more : (rows : List MarkOnPaper) (y : ℕ) (held more : List Placed) → rows ++ map (in_row y) (held ++ more) ≡ (rows ++ map (in_row y) held) ++ map (in_row y) more
held_more rows y held more = ap (λ marks. rows ++ marks) (map-append (in_row y) held more) ∙ sym (append_assoc rows (map (in_row y) held) (map (in_row y) more))

-- a line that ends has its marks
pub ended-adds : (s : Sheet) (graphic : Bool) (marks : List Placed) (position : ℕ) →
    marks_of_sheet (ended s graphic marks position) ≡ marks_of_sheet s ++ map (in_row (ended s graphic marks position).y) marks
ended-adds s graphic marks position =
    let of_row : Row → List MarkOnPaper = λ row. map (in_row row.y) row.marks in
    let last : Row = record { y = s.y; marks = s.paper.held } in
    ap (λ rows. rows ++ map (in_row (ended s graphic marks position).y) marks)
    (flat_map-append of_row s.paper.rows (last ∷ []) ∙ ap (λ marks. flat_map of_row s.paper.rows ++ marks) (append-nil (map (in_row s.y) s.paper.held)))

-- columns added to the line, and more in the next one
columns-add : (s : Sheet) (dots n : ℕ) → marks_of_sheet (with_columns s dots n) ≡ marks_of_sheet s ++ marks_from s.y s.position (Dots dots) n
columns-add s dots n =
    held_more (flat_map (λ (row : Row). map (in_row row.y) row.marks) s.paper.rows) s.y s.paper.held (columns_from s.position dots n)
    ∙ ap (λ marks. marks_of_sheet s ++ marks) (columns_in_row s.y s.position dots n)

-- a carriage makes as many columns as fit
pub fits-makes : (old : Carriage) (dots count position : ℕ) → position ≡ old.position + count → old.position + count ≤ 480 →
    Makes old (replicate count (Print true (Dots dots) 1)) (record { y = old.y; position = position }) (marks_from old.y old.position (Dots dots) count ++ [])
fits-makes old dots count position at room s e =
    let from : (position : ℕ) → position ≡ s.position + count → s.position + count ≤ 480 →
    Adds s (sheet_after_all s (replicate count (Print true (Dots dots) 1))) (record { y = s.y; position = position }) (marks_from s.y s.position (Dots dots) count ++ []) =
    λ position at room. rw (at, fits s dots count room) (record {
      carriage_is = refl;
      marks_are = columns-add s dots count ∙ ap (λ marks. marks_of_sheet s ++ marks) (sym (append-nil (marks_from s.y s.position (Dots dots) count)));
    }) in
    subst (λ (old : Carriage). (position : ℕ) → position ≡ old.position + count → old.position + count ≤ 480 →
    Adds s (sheet_after_all s (replicate count (Print true (Dots dots) 1))) (record { y = old.y; position = position }) (marks_from old.y old.position (Dots dots) count ++ []))
    e from position at room

-- a carriage makes more columns than fit
pub over-makes : (old : Carriage) (dots count room left y position : ℕ) → old.position + room ≡ 480 → room + left ≡ count → 0 < left → left ≤ 480 →
    y ≡ old.y + 14 → position ≡ left →
    Makes old (replicate count (Print true (Dots dots) 1)) (record { y = y; position = position })
    (marks_from old.y old.position (Dots dots) room ++ marks_from y 0 (Dots dots) left)
over-makes old dots count room left y position full parts some small at end s e =
    let from : s.position + room ≡ 480 → (y : ℕ) → y ≡ s.y + 14 →
    Adds s (sheet_after_all s (replicate count (Print true (Dots dots) 1))) (record { y = y; position = position })
    (marks_from s.y s.position (Dots dots) room ++ marks_from y 0 (Dots dots) left) =
    λ full y at. rw (at, end, over_count s dots count room left full parts some small) (record {
      carriage_is = refl;
      marks_are =
          ended-adds (with_columns s dots room) true (columns_from 0 dots left) left
          ∙ ap (λ marks. marks_of_sheet (with_columns s dots room) ++ marks) (columns_in_row (s.y + 14) 0 dots left)
          ∙ ap (λ marks. marks ++ marks_from (s.y + 14) 0 (Dots dots) left) (columns-add s dots room)
          ∙ append_assoc (marks_of_sheet s) (marks_from s.y s.position (Dots dots) room) (marks_from (s.y + 14) 0 (Dots dots) left);
    }) in
    subst (λ (old : Carriage). old.position + room ≡ 480 → (y : ℕ) → y ≡ old.y + 14 →
    Adds s (sheet_after_all s (replicate count (Print true (Dots dots) 1))) (record { y = y; position = position })
    (marks_from old.y old.position (Dots dots) room ++ marks_from y 0 (Dots dots) left))
    e from full y at

-- there are no more marks than a repeat can ask for
pub few_marks : (made : Made) → IsInLine made → length (marks_made made) ≤ 255
few_marks made within =
    let both = length_both made.y made.x made.count made.next_y made.next_count made.mark in
    omega (arith, both, within.1)
