-- Trusted: the marks on a paper, each with the place of its row.
use Rattle.std.specs.Prelude.{ℕ, zero, suc, ◌+◌, List, [], ◌∷◌, ◌++◌, flat_map, map}
use Rattle.pr_page.specs.declared.carriage.Made.{Made}
use Rattle.pr_page.specs.declared.carriage.MarkOnPaper.{MarkOnPaper}
use Rattle.pr_page.specs.declared.paper.Mark.{Mark}
use Rattle.pr_page.specs.declared.paper.Paper.{Paper}
use Rattle.pr_page.specs.declared.paper.Placed.{Placed}

-- a mark of a row at y
abbrev pub in_row : ℕ → Placed → MarkOnPaper
in_row y placed = record { y = y; x = placed.x; mark = placed.mark }

-- the marks of a paper, in the order in which they were placed: those of its rows, and then those that are held, whose
-- line is at y
abbrev pub marks_on : Paper → (y : ℕ) → List MarkOnPaper
marks_on paper y = flat_map (λ row. map (in_row row.y) row.marks) paper.rows ++ map (in_row y) paper.held

-- this many equal marks in a row at y, side by side from x on
abbrev pub marks_from : (y x : ℕ) → Mark → ℕ → List MarkOnPaper
marks_from y x mark zero = []
marks_from y x mark (suc n) = record { y = y; x = x; mark = mark } ∷ marks_from y (x + 1) mark n

-- the marks that an input makes: in a line, and then from its beginning in the next
abbrev pub marks_made : Made → List MarkOnPaper
marks_made made =
    marks_from made.y made.x made.mark made.count ++ marks_from made.next_y 0 made.mark made.next_count
