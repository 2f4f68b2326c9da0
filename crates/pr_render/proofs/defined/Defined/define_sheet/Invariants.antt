use Rattle.std.proofs.Common.{◌≡◌, List, ◌++◌, drop}
use Rattle.std.specs.Prelude.{flat_map}
use Rattle.pr_page.specs.declared.paper.Mark.{Mark}
use Rattle.pr_dots.specs.Sheets.{lowered_rows, rows_on}
use Rattle.pr_render.specs.Defined.{marks_on, new_definitions}
use Rattle.pr_render.proofs.defined.Defined.define_sheet.Given as goal

-- whatever marks follow: the text so far and the definitions that are still wanted make the whole
abbrev pub invariant-loop-row : goal.invariant-loop-row
invariant-loop-row l =
    (rest : List Mark) → l.text.items ++ new_definitions l.shapes l.self (marks_on (flat_map (λ r. r.marks) (rows_on l.sheet (lowered_rows l.above (drop l.row-index l.rows)))) ++ rest)
    ≡ l.fn.text.items ++ new_definitions l.shapes l.fn.self (marks_on (flat_map (λ r. r.marks) (rows_on l.sheet (lowered_rows l.above l.rows))) ++ rest)
