use Rattle.std.proofs.Common.{◌≡◌, ℕ, zero, suc, ◌+◌, ◌-◌, ◌<◌, ◌≤◌, ◌==◌, Bool, true, false, List, [], ◌∷◌, length}
use Rattle.std.proofs.Common.{take, drop, get_or, arith, subst, refl, ap, ◌∙◌, Option, Some, None, Result, Ok, Err, inl}
use Rattle.std.proofs.Common.{inr, length-drop, sym}
use Rattle.std.specs.Prelude.{if◌then◌else◌, nat_lt, not, slice_range}
use Rattle.std.specs.List.{insert}
use Rattle.std.proofs.lemmas.Bool.Decides.{eqb_tells}
use Rattle.std.proofs.lemmas.List.{length-take-le}
use Rattle.std.proofs.lemmas.List.Sums.{prefix_len-le-length}
use Rattle.pr_interpreter.specs.Lines.{Row, after_row, after_rows, after_rest, blanks, ends_row, enter, entered, front}
use Rattle.pr_interpreter.specs.Lines.{is_text, line_in, line_number, others, place_for, program_lines}
use Rattle.pr_interpreter.specs.Lines.{rows_from}
use Rattle.pr_interpreter.specs.LineLaws.{AreWithin, IsWithin}
use Rattle.pr_interpreter.proofs.LineLawLemmas.{lines_ok, went_on}
use Rattle.pr_interpreter.proofs.LineLemmas.{last_taken}
use Rattle.pr_interpreter.specs.declared.lines.Line.{Line}
use Rattle.pr_interpreter.specs.declared.fault.ProgramFault.{ProgramFault}
use Rattle.pr_interpreter.specs.declared.fault.ProgramFault.TheVariants.{LargeLineNumber, NoLineNumber}

abbrev ok_none : Result (Option Line) ProgramFault
ok_none = Ok None

abbrev ok_some : Line → Result (Option Line) ProgramFault
ok_some l = Ok (Some l)

abbrev err_of : ProgramFault → Result (Option Line) ProgramFault
err_of fault = Err fault

-- ---- lines that are put in or taken away

others_within : (n size : ℕ) (xs : List Line) → AreWithin size xs → AreWithin size (others n xs)
others_within n size [] all = tt
others_within n size (x ∷ xs) all =
    elim (eqb_tells x.number n) [
      | inl same ↦ rw same.0 (others_within n size xs all.1)
      | inr other ↦ rw other.0 (all.0, others_within n size xs all.1)
    ]

insert_within : (l : Line) (k size : ℕ) (xs : List Line) → IsWithin size l → AreWithin size xs
    → AreWithin size (insert xs k l)
insert_within l zero size xs h all = (h, all)
insert_within l (suc k) size [] h all = (h, tt)
insert_within l (suc k) size (x ∷ xs) h all = (all.0, insert_within l k size xs h all.1)

enter_within : (l : Line) (size : ℕ) (lines : List Line) → IsWithin size l → AreWithin size lines
    → AreWithin size (enter l lines)
unfolding enter
enter_within l size lines h all =
    let kept = others_within l.number size lines all in
    elim (eqb_tells l.start l.end) [
      | inl empty ↦ rw empty.0 kept
      | inr full ↦
          rw full.0 (insert_within l (place_for l.number (others l.number lines)) size (others l.number lines) h kept)
    ]

-- ---- rows

row_length : (text : List ℕ) (start end : ℕ) → start ≤ end → end ≤ length text
    → length (slice_range text start end) ≡ end - start
row_length text start end h k =
    let rest = length-drop start text in length-take-le (end - start) (drop start text) (omega arith)

-- the line that a row is, if it is one
row_cases : (first second third : Bool) (f g : ProgramFault) (x l : Line)
    → (if first then ok_none else if second then err_of f else if third then err_of g else ok_some x) ≡ ok_some l
    → x ≡ l
row_cases true second third f g x l e = absurd (cc)
row_cases false true third f g x l e = absurd (cc)
row_cases false false true f g x l e = absurd (cc)
row_cases false false false f g x l e = cc

-- it is in the row
row_within : (start size : ℕ) (row : List ℕ) (l : Line) → start + length row ≤ size → line_in start row ≡ ok_some l
    → IsWithin size l
unfolding line_in
row_within start size row l h e =
    let most : front row ≤ length row = prefix_len-le-length (λ b. not (is_text b)) row in
    let is : Line = record {
      number = line_number 0 (take (front row) row);
      start = start + front row;
      end = start + length row;
    } in
    let same = row_cases (blanks row == length row) (front row == blanks row)
    (nat_lt 63999 (line_number 0 (take (front row) row))) (NoLineNumber (start + blanks row))
    (LargeLineNumber (start + blanks row)) is l e in
    let inside : IsWithin size is = record { order = omega arith; within = omega arith } in
    subst (λ (t : Line). IsWithin size t) same inside

entered_within : (r : Result (Option Line) ProgramFault) (size : ℕ) (lines more : List Line)
    → ((l : Line) → r ≡ ok_some l → IsWithin size l) → AreWithin size lines → entered r lines ≡ lines_ok more
    → AreWithin size more
entered_within (Ok None) size lines more h all e =
    let same : lines ≡ more = cc in subst (λ (t : List Line). AreWithin size t) same all
entered_within (Ok (Some l)) size lines more h all e =
    let same : enter l lines ≡ more = cc in
    subst (λ (t : List Line). AreWithin size t) same (enter_within l size lines (h l refl) all)
entered_within (Err fault) size lines more h all e = absurd (cc)

-- the rows of a text are in it
abbrev RowsWithin : ℕ → List Row → Type 0
RowsWithin size [] = Unit {0}
RowsWithin size (row ∷ rows) = ((row.start ≤ row.end) × (row.end ≤ size)) × RowsWithin size rows

abbrev row_of : ℕ → ℕ → Row
row_of start end = record { start = start; end = end }

either_within : (b : Bool) (size : ℕ) (xs ys : List Row) → RowsWithin size xs → RowsWithin size ys
    → RowsWithin size (if b then xs else ys)
either_within true size xs ys h k = h
either_within false size xs ys h k = k

rows_within : (size start place : ℕ) (rest : List ℕ) → start ≤ place → place + length rest ≤ size
    → RowsWithin size (rows_from start place rest)
rows_within size start place [] h k = ((h, omega arith), tt)
rows_within size start place (b ∷ bs) h k =
    let ended : RowsWithin size (row_of start place ∷ rows_from (place + 1) (place + 1) bs) =
    ((h, omega arith), rows_within size (place + 1) (place + 1) bs (omega arith) (omega arith)) in
    either_within (ends_row b) size _ _ ended (rows_within size start (place + 1) bs (omega arith) (omega arith))

after_rows_within : (text : List ℕ) (rows : List Row) (lines out : List Line) → RowsWithin (length text) rows
    → AreWithin (length text) lines → after_rows text rows lines ≡ lines_ok out → AreWithin (length text) out
unfolding after_row
after_rows_within text [] lines out h all e =
    let same : lines ≡ out = cc in subst (λ (t : List Line). AreWithin (length text) t) same all
after_rows_within text (row ∷ rows) lines out h all e =
    let step = went_on (after_row text row.start row.end lines) (λ (more : List Line). after_rows text rows more)
    out e in
    let size = row_length text row.start row.end h.0.0 h.0.1 in
    let inside : row.start + length (slice_range text row.start row.end) ≤ length text =
    (let low = h.0.0 in let high = h.0.1 in omega arith) in
    let kept = entered_within (line_in row.start (slice_range text row.start row.end)) (length text) lines step.0
    (λ (l : Line) (is : line_in row.start (slice_range text row.start row.end) ≡ ok_some l).
    row_within row.start (length text) (slice_range text row.start row.end) l inside is) all step.1 in
    after_rows_within text rows step.0 out h.1 kept step.2

pub lines_within : (text : List ℕ) (lines : List Line) → program_lines text ≡ lines_ok lines
    → AreWithin (length text) lines
unfolding program_lines after_rest
lines_within text lines e =
    let inside = rows_within (length text) 0 0 text (omega arith) (omega arith) in
    after_rows_within text (rows_from 0 0 text) [] lines inside tt e

-- the lines after the last row
pub last_within : (text : List ℕ) (start place : ℕ) (lines more : List Line) → place ≡ length text
    → after_row text start (length text) lines ≡ lines_ok more → after_rest text start place lines ≡ program_lines text
    → AreWithin (length text) more
last_within text start place lines more e done all =
    let most : length text ≤ place = omega arith in
    let same = ap (λ (n : ℕ). after_row text start n lines) e in
    lines_within text more (sym all ∙ last_taken text start place lines more most (same ∙ done))

-- a line is where the program is
pub within_at : (size : ℕ) (xs : List Line) (i : ℕ) (d : Line) → AreWithin size xs → i < length xs
    → IsWithin size (get_or xs i d)
within_at size [] i d all h = absurd (omega arith)
within_at size (x ∷ xs) zero d all h = all.0
within_at size (x ∷ xs) (suc i) d all h = within_at size xs i d all.1 (omega arith)
