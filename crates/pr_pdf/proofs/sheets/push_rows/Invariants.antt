use Rattle.std.proofs.Common.{◌≡◌, ◌++◌, drop}
use Rattle.std.specs.Prelude.{filter, flat_map}
use Rattle.pr_dots.specs.Sheets.{is_on, lowered_rows}
use Rattle.pr_pdf.specs.Sheets.{row_pdf}
use Rattle.pr_pdf.proofs.sheets.push_rows.Given as goal

-- the text so far and that of what is left make the whole
abbrev pub invariant-loop-row : goal.invariant-loop-row
invariant-loop-row l = l.text.items ++ flat_map (row_pdf l.sheet) (filter (is_on l.sheet) (lowered_rows l.top (drop l.row-index l.rows)))
    ≡ l.fn.text.items ++ flat_map (row_pdf l.sheet) (filter (is_on l.sheet) (lowered_rows l.top l.rows))
