-- The rows of marks, and the marks of rows.
use Rattle.std.proofs.Common.{◌≡◌, ℕ, ◌+◌, ◌≤◌, Bool, true, false, cond, List, [], ◌∷◌, ◌++◌, map, Some, None}
use Rattle.std.proofs.Common.{refl, sym, ap, subst, ◌∙◌, arith, append_assoc, append-nil}
use Rattle.std.specs.Prelude.{◌==◌, filter, flat_map, nat_lt, reverse}
use Rattle.std.proofs.lemmas.Bool.Decides.{nat_tests}
use Rattle.std.proofs.lemmas.Grind.{flat_map-append}
use Rattle.std.proofs.lemmas.List.{map-append}
use Rattle.pr_page.specs.Acts.{Act, End, Move, Print, acts_of}
use Rattle.pr_page.specs.Lines.{AreLines, BeginsWithRow, IsLine, left_after, pitch_before}
use Rattle.pr_page.specs.Marks.{in_row, marks_on}
use Rattle.pr_page.specs.Page.{IsPage}
use Rattle.pr_page.specs.declared.carriage.MarkOnPaper.{MarkOnPaper}
use Rattle.pr_page.specs.declared.input.Input.{Input}
use Rattle.pr_page.specs.declared.paper.Paper.{Paper}
use Rattle.pr_page.specs.declared.paper.Placed.{Placed}
use Rattle.pr_page.specs.declared.paper.Row.{Row}
use Rattle.pr_exports.specs.Marks.{AreMarked, HasMarks, are_some, first_up, has_marks, on_paper, without_blank}
use Rattle.pr_exports.specs.MarkSteps.{placed_by, row_of, rows_after}
use Rattle.pr_exports.specs.declared.marks.WireMark.{WireMark}

-- the marks of rows
abbrev pub marks_in : List Row → List MarkOnPaper
marks_in rows = flat_map (λ (row : Row). map (in_row row.y) row.marks) rows

row_marks : (y : ℕ) (placed : List Placed) → marks_in (row_of y placed) ≡ map (in_row y) placed
row_marks y [] = refl
row_marks y (p ∷ ps) = append-nil (map (in_row y) (p ∷ ps))

-- one mark more: it goes on with its row, or begins one
mark_more : (y : ℕ) (placed : List Placed) (w : WireMark) (ws : List WireMark) (t : Bool) → (w.y == y) ≡ t
    → marks_in (rows_after y (placed ++ placed_by w ∷ []) ws)
    ≡ map (in_row y) (placed ++ placed_by w ∷ []) ++ map on_paper ws
    → marks_in (rows_after w.y (placed_by w ∷ []) ws) ≡ on_paper w ∷ map on_paper ws
    → marks_in (cond t (rows_after y (placed ++ placed_by w ∷ []) ws)
    (row_of y placed ++ rows_after w.y (placed_by w ∷ []) ws))
    ≡ map (in_row y) placed ++ on_paper w ∷ map on_paper ws
mark_more y placed w ws true is same next =
    let at : w.y ≡ y = grind (arith, nat_tests, is) in
    same
    ∙ ap (λ l. l ++ map on_paper ws) (map-append (in_row y) placed (placed_by w ∷ []))
    ∙ append_assoc (map (in_row y) placed) (in_row y (placed_by w) ∷ []) (map on_paper ws)
    ∙ ap (λ n. map (in_row y) placed ++ in_row n (placed_by w) ∷ map on_paper ws) (sym at)
mark_more y placed w ws false is same next =
    flat_map-append (λ (row : Row). map (in_row row.y) row.marks) (row_of y placed)
    (rows_after w.y (placed_by w ∷ []) ws)
    ∙ ap (λ l. l ++ marks_in (rows_after w.y (placed_by w ∷ []) ws)) (row_marks y placed)
    ∙ ap (λ l. map (in_row y) placed ++ l) next

rows_marks : (y : ℕ) (placed : List Placed) (ws : List WireMark)
    → marks_in (rows_after y placed ws) ≡ map (in_row y) placed ++ map on_paper ws
rows_marks y placed [] = row_marks y placed ∙ sym (append-nil (map (in_row y) placed))
rows_marks y placed (w ∷ ws) =
    mark_more y placed w ws (w.y == y) refl (rows_marks y (placed ++ placed_by w ∷ []) ws)
    (rows_marks w.y (placed_by w ∷ []) ws)

-- a row goes before rows that are below it
row_first : (from y : ℕ) (placed : List Placed) (rows : List Row) → from ≤ y → AreMarked from rows
    → AreMarked (y + 1) rows → AreMarked from (row_of y placed ++ rows)
row_first from y [] rows h first later = first
row_first from y (p ∷ ps) rows h first later = (h, refl, later)

row_alone : (from y : ℕ) (placed : List Placed) → from ≤ y → AreMarked from (row_of y placed)
row_alone from y [] h = tt
row_alone from y (p ∷ ps) h = (h, refl, tt)

-- a mark that is not above the one before it, and so the next ones
goes_down : (index y : ℕ) (w : WireMark) (ws : List WireMark) (t : Bool) → nat_lt w.y y ≡ t
    → cond t (Some index) (first_up (index + 1) w.y ws) ≡ None → (y ≤ w.y) × (first_up (index + 1) w.y ws ≡ None)
goes_down index y w ws true is none = absurd (cc)
goes_down index y w ws false is none = (grind (arith, nat_tests, is), none)

marked_more : (from y : ℕ) (placed : List Placed) (w : WireMark) (ws : List WireMark) (t : Bool) → (w.y == y) ≡ t
    → from ≤ y → y ≤ w.y
    → (w.y ≡ y → AreMarked from (rows_after y (placed ++ placed_by w ∷ []) ws))
    → ((n : ℕ) → n ≤ w.y → AreMarked n (rows_after w.y (placed_by w ∷ []) ws))
    → AreMarked from (cond t (rows_after y (placed ++ placed_by w ∷ []) ws)
    (row_of y placed ++ rows_after w.y (placed_by w ∷ []) ws))
marked_more from y placed w ws true is h down same next = same (grind (arith, nat_tests, is))
marked_more from y placed w ws false is h down same next =
    let below : y + 1 ≤ w.y = grind (arith, nat_tests, is, down) in
    row_first from y placed (rows_after w.y (placed_by w ∷ []) ws) h (next from (omega (arith, h, down)))
    (next (y + 1) below)

rows_marked : (from index y : ℕ) (placed : List Placed) (ws : List WireMark) → from ≤ y → first_up index y ws ≡ None
    → AreMarked from (rows_after y placed ws)
rows_marked from index y placed [] h none = row_alone from y placed h
rows_marked from index y placed (w ∷ ws) h none =
    let down = goes_down index y w ws (nat_lt w.y y) refl none in
    marked_more from y placed w ws (w.y == y) refl h down.0
    (λ at. rows_marked from (index + 1) y (placed ++ placed_by w ∷ []) ws h
    (subst (λ n. first_up (index + 1) n ws ≡ None) at down.1))
    (λ n inside. rows_marked n (index + 1) w.y (placed_by w ∷ []) ws inside down.1)

-- the paper of marks
pub marks_of_rows : (marks : List WireMark) (paper : Paper) → first_up 0 0 marks ≡ None
    → paper.rows ≡ rows_after 0 [] marks → paper.held ≡ [] → HasMarks marks paper
marks_of_rows marks paper none rows held = record {
  marks_are = sym (
      ap (λ l. marks_in paper.rows ++ map (in_row 0) l) held ∙ append-nil (marks_in paper.rows) ∙ ap marks_in rows
      ∙ rows_marks 0 [] marks
      );
  held = held;
  rows = subst (λ l. AreMarked 0 l) (sym rows) (rows_marked 0 0 0 [] marks (omega arith) none);
}

pub a_paper : (marks : List WireMark) → first_up 0 0 marks ≡ None → (paper : Paper) × HasMarks marks paper
a_paper marks none =
    let paper : Paper = record { rows = rows_after 0 [] marks; held = [] } in
    (paper, marks_of_rows marks paper none refl refl)

-- the rows of a page, each below the one before it
abbrev AreBelow : (from : ℕ) → List Row → Type 0
AreBelow from [] = Unit {0}
AreBelow from (row ∷ rows) = (from ≤ row.y) × AreBelow (row.y + 1) rows

sooner : (m n : ℕ) (rows : List Row) → m ≤ n → AreBelow n rows → AreBelow m rows
sooner m n [] h below = tt
sooner m n (row ∷ rows) h below = (omega (arith, h, below.0), below.1)

advances : (line : List Act) (next : Act) → IsLine line → ¬ IsLine (next ∷ line) → 1 ≤ pitch_before next
advances line (End true) is not = omega arith
advances line (End false) is not = omega arith
advances line (Print true mark width) is not = omega arith
advances line (Print false mark width) is not = omega arith
advances line (Move x) is not = absurd (not is)

lines_below : (y : ℕ) (acts : List Act) (rows : List Row) (last : List Act) → AreLines y acts rows last
    → AreBelow y rows
lines_below y acts [] last h = tt
lines_below y acts (row ∷ rows) last h =
    let first : BeginsWithRow y acts row = h.0 in
    let at : row.y ≡ y = ap (λ (row : Row). row.y) first.is_row in
    let far = advances first.line first.next first.is_line first.is_longest in (
      omega (arith, at),
      sooner (row.y + 1) (y + pitch_before first.next) rows (omega (arith, at, far))
          (lines_below (y + pitch_before first.next) (left_after first.next first.more) rows last h.1),
    )

-- rows without those that have no marks
kept_marked : (from : ℕ) (row : Row) (rows : List Row) (t : Bool) → has_marks row ≡ t → from ≤ row.y
    → ((n : ℕ) → n ≤ row.y + 1 → AreMarked n (filter has_marks rows))
    → AreMarked from (cond t (row ∷ filter has_marks rows) (filter has_marks rows))
kept_marked from row rows true is h more = (h, is, more (row.y + 1) (omega arith))
kept_marked from row rows false is h more = more from (omega (arith, h))

rows_kept : (from to : ℕ) (rows : List Row) → AreBelow to rows → from ≤ to → AreMarked from (filter has_marks rows)
rows_kept from to [] below h = tt
rows_kept from to (row ∷ rows) below h =
    kept_marked from row rows (has_marks row) refl (omega (arith, h, below.0))
    (λ n inside. rows_kept n (row.y + 1) rows below.1 inside)

kept_marks : (row : Row) (rows : List Row) (placed : List Placed) → row.marks ≡ placed
    → marks_in (filter has_marks rows) ≡ marks_in rows
    → marks_in (filter has_marks (row ∷ rows)) ≡ marks_in (row ∷ rows)
kept_marks row rows [] is more =
    let none : has_marks row ≡ false = rw is refl in
    ap (λ t. marks_in (cond t (row ∷ filter has_marks rows) (filter has_marks rows))) none
    ∙ more ∙ sym (ap (λ placed. map (in_row row.y) placed ++ marks_in rows) is)
kept_marks row rows (p ∷ ps) is more =
    let some : has_marks row ≡ true = rw is refl in
    ap (λ t. marks_in (cond t (row ∷ filter has_marks rows) (filter has_marks rows))) some
    ∙ ap (λ l. map (in_row row.y) row.marks ++ l) more

all_kept : (rows : List Row) → marks_in (filter has_marks rows) ≡ marks_in rows
all_kept [] = refl
all_kept (row ∷ rows) = kept_marks row rows row.marks refl (all_kept rows)

-- marks of a page that holds none
pub their_page : (inputs : List Input) (page : Paper) (y : ℕ) (marks : List WireMark) → IsPage inputs page
    → page.held ≡ [] → map on_paper marks ≡ marks_on page y → HasMarks marks (without_blank page)
their_page inputs page y marks is none same =
    let front = marks_in page.rows in
    let all : marks_on page y ≡ front = ap (λ l. front ++ map (in_row y) l) none ∙ append-nil front in
    let kept = marks_in (filter has_marks page.rows) in
    let again : marks_on (without_blank page) 0 ≡ kept = ap (λ l. kept ++ map (in_row 0) l) none ∙ append-nil kept in
    record {
      marks_are = same ∙ all ∙ sym (all_kept page.rows) ∙ sym again;
      held = none;
      rows = rows_kept 0 0 page.rows (lines_below 0 (acts_of (reverse is.tokens)) page.rows is.last is.are_lines)
          (omega arith);
    }

-- a row with marks has some
no_marks : (row : Row) → row.marks ≡ [] → has_marks row ≡ true → ⊥
no_marks row is some = let no : false ≡ true = sym (ap are_some is) ∙ some in absurd (cc)

-- the first mark of rows from a distance on
first_in : (from : ℕ) (row : Row) (rows : List Row) (placed : List Placed) (m : MarkOnPaper) (ms : List MarkOnPaper)
    → row.marks ≡ placed → from ≤ row.y → has_marks row ≡ true
    → marks_in (row ∷ rows) ≡ m ∷ ms → from ≤ m.y
first_in from row rows [] m ms is low some h = absurd (no_marks row is some)
first_in from row rows (p ∷ ps) m ms is low some h =
    let whole : in_row row.y p ∷ (map (in_row row.y) ps ++ marks_in rows) ≡ m ∷ ms =
    sym (ap (λ l. map (in_row row.y) l ++ marks_in rows) is) ∙ h in
    let first : in_row row.y p ≡ m = cc (whole) in
    let at : row.y ≡ m.y = ap (λ (m : MarkOnPaper). m.y) first in
    omega (arith, low, at)

first_below : (from : ℕ) (rows : List Row) (m : MarkOnPaper) (ms : List MarkOnPaper) → AreMarked from rows
    → marks_in rows ≡ m ∷ ms → from ≤ m.y
first_below from [] m ms marked h = absurd (cc)
first_below from (row ∷ rows) m ms marked h = first_in from row rows row.marks m ms refl marked.0 marked.1 h

-- marks in a row and those of rows below it come apart in one way
apart : (y : ℕ) (ps qs : List Placed) (rows others : List Row) → AreMarked (y + 1) rows → AreMarked (y + 1) others
    → map (in_row y) ps ++ marks_in rows ≡ map (in_row y) qs ++ marks_in others
    → (ps ≡ qs) × (marks_in rows ≡ marks_in others)
apart y [] [] rows others a b h = (refl, h)
apart y [] (q ∷ qs) rows others a b h =
    let far : y + 1 ≤ y = first_below (y + 1) rows (in_row y q) (map (in_row y) qs ++ marks_in others) a h in
    absurd (omega (arith, far))
apart y (p ∷ ps) [] rows others a b h =
    let far : y + 1 ≤ y = first_below (y + 1) others (in_row y p) (map (in_row y) ps ++ marks_in rows) b (sym h) in
    absurd (omega (arith, far))
apart y (p ∷ ps) (q ∷ qs) rows others a b h =
    let placed : MarkOnPaper → Placed = λ m. record { x = m.x; mark = m.mark } in
    let first : in_row y p ≡ in_row y q = cc (h) in
    let rest : map (in_row y) ps ++ marks_in rows ≡ map (in_row y) qs ++ marks_in others = cc (h) in
    let more = apart y ps qs rows others a b rest in
    let same : p ≡ q = ap placed first in
    (cc (same, more.0), more.1)

same_y : (row other : Row) (rows others : List Row) (ps qs : List Placed) → row.marks ≡ ps → other.marks ≡ qs
    → has_marks row ≡ true → has_marks other ≡ true
    → marks_in (row ∷ rows) ≡ marks_in (other ∷ others) → row.y ≡ other.y
same_y row other rows others [] qs is are some more h = absurd (no_marks row is some)
same_y row other rows others (p ∷ ps) [] is are some more h = absurd (no_marks other are more)
same_y row other rows others (p ∷ ps) (q ∷ qs) is are some more h =
    let whole : in_row row.y p ∷ (map (in_row row.y) ps ++ marks_in rows)
    ≡ in_row other.y q ∷ (map (in_row other.y) qs ++ marks_in others) =
    sym (ap (λ l. map (in_row row.y) l ++ marks_in rows) is) ∙ h
    ∙ ap (λ l. map (in_row other.y) l ++ marks_in others) are in
    let first : in_row row.y p ≡ in_row other.y q = cc (whole) in
    ap (λ (m : MarkOnPaper). m.y) first

some_marks : (row : Row) (rows : List Row) (placed : List Placed) → row.marks ≡ placed → has_marks row ≡ true
    → marks_in (row ∷ rows) ≡ [] → ⊥
some_marks row rows [] is some h = no_marks row is some
some_marks row rows (p ∷ ps) is some h =
    let none : in_row row.y p ∷ (map (in_row row.y) ps ++ marks_in rows) ≡ [] =
    sym (ap (λ l. map (in_row row.y) l ++ marks_in rows) is) ∙ h in
    absurd (cc)

same_rows : (from to : ℕ) (rows others : List Row) → AreMarked from rows → AreMarked to others
    → marks_in rows ≡ marks_in others → rows ≡ others
same_rows from to [] [] a b h = refl
same_rows from to [] (other ∷ others) a b h = absurd (some_marks other others other.marks refl b.1 (sym h))
same_rows from to (row ∷ rows) [] a b h = absurd (some_marks row rows row.marks refl a.1 h)
same_rows from to (row ∷ rows) (other ∷ others) a b h =
    let at = same_y row other rows others row.marks other.marks refl refl a.1 b.1 h in
    let parts = apart row.y row.marks other.marks rows others a.2 (subst (λ n. AreMarked (n + 1) others) (sym at) b.2)
    (h ∙ ap (λ n. map (in_row n) other.marks ++ marks_in others) (sym at)) in
    let more = same_rows (row.y + 1) (other.y + 1) rows others a.2 b.2 parts.1 in
    let in_y : ℕ → Row = λ n. record { y = n; marks = row.marks } in
    let with_marks : List Placed → Row = λ l. record { y = other.y; marks = l } in
    let first : row ≡ other = ap in_y at ∙ ap with_marks parts.0 in
    cc (first, more)

-- marks have one paper
pub one_paper : (marks : List WireMark) (one other : Paper) → HasMarks marks one → HasMarks marks other → one ≡ other
one_paper marks one other a b =
    let front : (paper : Paper) → paper.held ≡ [] → marks_on paper 0 ≡ marks_in paper.rows =
    λ paper none. ap (λ l. marks_in paper.rows ++ map (in_row 0) l) none ∙ append-nil (marks_in paper.rows) in
    let rows = same_rows 0 0 one.rows other.rows a.rows b.rows (sym (front one a.held) ∙ sym a.marks_are ∙ b.marks_are
    ∙ front other b.held) in
    let with_rows : List Row → Paper = λ l. record { rows = l; held = one.held } in
    let with_held : List Placed → Paper = λ l. record { rows = other.rows; held = l } in
    ap with_rows rows ∙ ap with_held (a.held ∙ sym b.held)
