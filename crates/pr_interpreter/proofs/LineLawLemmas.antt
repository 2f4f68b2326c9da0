use Rattle.std.proofs.Common.{◌≡◌, ◌≢◌, ℕ, zero, suc, ◌+◌, ◌≤◌, ◌==◌, false, List, [], ◌∷◌, arith, subst, refl, ap, ◌∙◌}
use Rattle.std.proofs.Common.{Option, Some, None, Result, Ok, Err, inl, inr}
use Rattle.std.specs.List.{insert}
use Rattle.std.proofs.lemmas.Bool.{cases_lt, eq-eqb, le-ltb, lt-ltb}
use Rattle.std.proofs.lemmas.Bool.Decides.{eqb_tells}
use Rattle.pr_interpreter.specs.Lines.{Row, after_rest, after_row, after_rows, enter, entered, go_on, others, place_for}
use Rattle.pr_interpreter.specs.Lines.{program_lines, rows_from}
use Rattle.pr_interpreter.specs.LineLaws.{Ascend, LinesAscend, TypedLinesCount, line_of}
use Rattle.pr_interpreter.specs.declared.lines.Line.{Line}
use Rattle.pr_interpreter.specs.declared.fault.ProgramFault.{ProgramFault}

abbrev pub no_line : Option Line
no_line = None

abbrev pub some_line : Line → Option Line
some_line l = Some l

abbrev pub lines_ok : List Line → Result (List Line) ProgramFault
lines_ok lines = Ok lines

-- ---- the line of a number

-- without the lines of a number the others stay
pub others_line : (n number : ℕ) (lines : List Line) → (n == number) ≡ false
    → line_of number (others n lines) ≡ line_of number lines
others_line n number [] e = refl
others_line n number (x ∷ xs) e =
    elim (eqb_tells x.number n) [
      | inl same ↦
          let differs : (x.number == number) ≡ false = ap (λ (t : ℕ). t == number) same.1 ∙ e in
          rw (same.0, differs) (others_line n number xs e)
      | inr other ↦ rw (other.0, others_line n number xs e) refl
    ]

-- and there is none of that number
pub others_none : (n : ℕ) (lines : List Line) → line_of n (others n lines) ≡ no_line
others_none n [] = refl
others_none n (x ∷ xs) =
    elim (eqb_tells x.number n) [
      | inl same ↦ rw same.0 (others_none n xs)
      | inr other ↦ rw (other.0, other.0) (others_none n xs)
    ]

-- a line that is put in is found
pub insert_found : (l : Line) (k : ℕ) (xs : List Line) → line_of l.number xs ≡ no_line
    → line_of l.number (insert xs k l) ≡ some_line l
insert_found l zero xs none = rw (eq-eqb l.number l.number refl) refl
insert_found l (suc k) [] none = rw (eq-eqb l.number l.number refl) refl
insert_found l (suc k) (x ∷ xs) none =
    elim (eqb_tells x.number l.number) [
      | inl same ↦ absurd (let found : some_line x ≡ no_line = rw same.0 at none in cc)
      | inr other ↦
          let rest : line_of l.number xs ≡ no_line = rw other.0 at none in
          rw other.0 (insert_found l k xs rest)
    ]

-- and changes no other number
pub insert_other : (l : Line) (number k : ℕ) (xs : List Line) → (l.number == number) ≡ false
    → line_of number (insert xs k l) ≡ line_of number xs
insert_other l number zero xs e = rw e refl
insert_other l number (suc k) [] e = rw e refl
insert_other l number (suc k) (x ∷ xs) e = rw (insert_other l number k xs e) refl

pub typed_lines_count : TypedLinesCount
unfolding enter
typed_lines_count l lines number =
    elim (eqb_tells l.start l.end) [
      | inl empty ↦ elim (eqb_tells l.number number) [
        | inl same ↦
            rw (empty.0, same.0)
            (subst (λ (n : ℕ). line_of n (others l.number lines) ≡ no_line) same.1 (others_none l.number lines))
        | inr other ↦ rw (empty.0, other.0) (others_line l.number number lines other.0)
      ]
      | inr full ↦ elim (eqb_tells l.number number) [
        | inl same ↦
            rw (full.0, same.0)
            (subst
            (λ (n : ℕ). line_of n (insert (others l.number lines) (place_for l.number (others l.number lines)) l) ≡
            some_line l) same.1
            (insert_found l (place_for l.number (others l.number lines)) (others l.number lines)
            (others_none l.number lines)))
        | inr other ↦
            rw (full.0, other.0)
            (insert_other l number (place_for l.number (others l.number lines)) (others l.number lines) other.0
            ∙ others_line l.number number lines other.0)
      ]
    ]

-- ---- their order

pub weaken : (a b : ℕ) (xs : List Line) → a ≤ b → Ascend b xs → Ascend a xs
weaken a b [] h asc = tt
weaken a b (x ∷ xs) h asc = (let least = asc.0 in omega arith, asc.1)

pub others_ascend : (n a : ℕ) (xs : List Line) → Ascend a xs → Ascend a (others n xs)
others_ascend n a [] asc = tt
others_ascend n a (x ∷ xs) asc =
    elim (eqb_tells x.number n) [
      | inl same ↦
          let least : a ≤ x.number + 1 = (let first = asc.0 in omega arith) in
          rw same.0 (weaken a (x.number + 1) (others n xs) least (others_ascend n (x.number + 1) xs asc.1))
      | inr other ↦ rw other.0 (asc.0, others_ascend n (x.number + 1) xs asc.1)
    ]

-- no line has the number
abbrev pub Lacks : ℕ → List Line → Type 0
Lacks n [] = Unit {0}
Lacks n (x ∷ xs) = (x.number ≢ n) × Lacks n xs

pub others_lack : (n : ℕ) (xs : List Line) → Lacks n (others n xs)
others_lack n [] = tt
others_lack n (x ∷ xs) =
    elim (eqb_tells x.number n) [
      | inl same ↦ rw same.0 (others_lack n xs)
      | inr other ↦ rw other.0 (other.1, others_lack n xs)
    ]

pub one_more : (k : ℕ) → 1 + k ≡ suc k
one_more k = omega arith

pub insert_ascends : (l : Line) (a : ℕ) (xs : List Line) → a ≤ l.number → Ascend a xs → Lacks l.number xs
    → Ascend a (insert xs (place_for l.number xs) l)
insert_ascends l a [] h asc lacks = (h, tt)
insert_ascends l a (x ∷ xs) h asc lacks =
    elim (cases_lt l.number x.number) [
      | inl less ↦
          let next : l.number + 1 ≤ x.number = omega arith in
          rw (lt-ltb l.number x.number less) (h, (next, asc.1))
      | inr more ↦
          let ne = lacks.0 in
          let next : x.number + 1 ≤ l.number = omega arith in
          rw (le-ltb l.number x.number more, one_more (place_for l.number xs))
          (asc.0, insert_ascends l (x.number + 1) xs next asc.1 lacks.1)
    ]

pub enter_ascends : (l : Line) (lines : List Line) → Ascend 0 lines → Ascend 0 (enter l lines)
unfolding enter
enter_ascends l lines asc =
    let kept = others_ascend l.number 0 lines asc in
    let least : 0 ≤ l.number = omega arith in
    elim (eqb_tells l.start l.end) [
      | inl empty ↦ rw empty.0 kept
      | inr full ↦ rw full.0 (insert_ascends l 0 (others l.number lines) least kept (others_lack l.number lines))
    ]

pub entered_ascends : (r : Result (Option Line) ProgramFault) (lines more : List Line) → Ascend 0 lines
    → entered r lines ≡ lines_ok more → Ascend 0 more
entered_ascends (Ok None) lines more asc e = let same : lines ≡ more = cc in subst (λ (t : List Line). Ascend 0 t)
    same asc
entered_ascends (Ok (Some l)) lines more asc e =
    let same : enter l lines ≡ more = cc in subst (λ (t : List Line). Ascend 0 t) same (enter_ascends l lines asc)
entered_ascends (Err fault) lines more asc e = absurd (cc)

-- what comes after a row comes of what the row left
pub went_on : (r : Result (List Line) ProgramFault) (more : List Line → Result (List Line) ProgramFault)
    (out : List Line)
    → go_on r more ≡ lines_ok out → (lines : List Line) × (r ≡ lines_ok lines) × (more lines ≡ lines_ok out)
went_on (Ok lines) more out e = (lines, refl, e)
went_on (Err fault) more out e = absurd (cc)

pub rows_ascend : (text : List ℕ) (rows : List Row) (lines out : List Line) → Ascend 0 lines
    → after_rows text rows lines ≡ lines_ok out → Ascend 0 out
unfolding after_row
rows_ascend text [] lines out asc e = let same : lines ≡ out = cc in subst (λ (t : List Line). Ascend 0 t) same asc
rows_ascend text (row ∷ rows) lines out asc e =
    let step = went_on (after_row text row.start row.end lines) (λ (more : List Line). after_rows text rows more)
    out e in
    let kept = entered_ascends _ lines step.0 asc step.1 in
    rows_ascend text rows step.0 out kept step.2

pub lines_ascend : LinesAscend
unfolding program_lines after_rest
lines_ascend text lines e = rows_ascend text (rows_from 0 0 text) [] lines tt e
