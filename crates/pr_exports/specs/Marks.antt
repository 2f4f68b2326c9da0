-- Trusted: marks on the paper as numbers, and the paper that has them.
use Rattle.std.specs.Prelude.{◌≡◌, ⊤, ℕ, ◌+◌, ◌*◌, ◌≤◌, ◌==◌, Bool, true, false, List, [], ◌∷◌, map, filter, nat_lt}
use Rattle.std.specs.Prelude.{if◌then◌else◌, Option, Some, None}
use Rattle.pr_page.specs.Marks.{marks_on}
use Rattle.pr_page.specs.Page.{IsPage}
use Rattle.pr_page.specs.declared.carriage.MarkOnPaper.{MarkOnPaper}
use Rattle.pr_page.specs.declared.input.Input.{Input}
use Rattle.pr_page.specs.declared.paper.Mark.{Mark}
use Rattle.pr_page.specs.declared.paper.Mark.TheVariants.{Cell, Dots}
use Rattle.pr_page.specs.declared.paper.Paper.{Paper}
use Rattle.pr_page.specs.declared.paper.Placed.{Placed}
use Rattle.pr_page.specs.declared.paper.Row.{Row}
use Rattle.pr_dots.specs.Sheets.{is_on}
use Rattle.pr_exports.specs.declared.marks.WireMark.{WireMark}

-- a mark by its numbers
abbrev pub mark_by : WireMark → Mark
mark_by w = if w.kind == 1 then Dots w.value else Cell w.value (w.lower == 1) (w.reverse == 1) (w.wide == 1)

-- the same with its place on the paper
abbrev pub on_paper : WireMark → MarkOnPaper
on_paper w = record { y = w.y; x = w.x; mark = mark_by w }

-- the index of the first mark that is above the one before it, where the one before them all is at y and they are
-- counted from an index
abbrev pub first_up : (index y : ℕ) → List WireMark → Option ℕ
first_up index y [] = None
first_up index y (w ∷ ws) = if nat_lt w.y y then Some index else first_up (index + 1) w.y ws

-- a row has marks
abbrev pub are_some : List Placed → Bool
are_some [] = false
are_some (placed ∷ more) = true

abbrev pub has_marks : Row → Bool
has_marks row = are_some row.marks

-- rows with marks, each below the one before it, and all from a distance on
abbrev pub AreMarked : (from : ℕ) → List Row → Type 0
AreMarked from [] = ⊤
AreMarked from (row ∷ rows) = (from ≤ row.y) × (has_marks row ≡ true) × AreMarked (row.y + 1) rows

-- the paper that has these marks and no others, in their order: each of its rows has some, and lies below the one
-- before it
pub record HasMarks (marks : List WireMark) (paper : Paper) : Type 0 where
  pub marks_are : map on_paper marks ≡ marks_on paper 0
  pub held : paper.held ≡ []
  pub rows : AreMarked 0 paper.rows

-- a paper without the rows that have no marks
abbrev pub without_blank : Paper → Paper
without_blank paper = record paper { rows = filter has_marks paper.rows }

-- a mark's row is on a sheet, counted from 0, where the first row of the paper may be some lines below its edge
abbrev pub is_marked_on : (top sheet : ℕ) → WireMark → Bool
is_marked_on top sheet w = is_on sheet (record { y = w.y + 21 * top; marks = [] })

-- a law: marks of the page of inputs, where none are held, are those of the page without its blank rows
abbrev pub MarksHaveTheirPage : Type 0
MarksHaveTheirPage =
    (inputs : List Input) (page : Paper) (y : ℕ) (marks : List WireMark) → IsPage inputs page → page.held ≡ []
    → map on_paper marks ≡ marks_on page y → HasMarks marks (without_blank page)

-- a law: marks have a paper, where none is above the one before it
abbrev pub MarksHaveAPaper : Type 0
MarksHaveAPaper = (marks : List WireMark) → first_up 0 0 marks ≡ None → (paper : Paper) × HasMarks marks paper

-- a law: marks have no more than one paper
abbrev pub MarksHaveOnePaper : Type 0
MarksHaveOnePaper =
    (marks : List WireMark) (one other : Paper) → HasMarks marks one → HasMarks marks other → one ≡ other
