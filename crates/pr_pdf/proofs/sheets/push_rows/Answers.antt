use Rattle.std.proofs.Common.{◌≡◌, ◌++◌, ◌<◌, [], ◌∙◌, ap, arith, sym, true, drop, append-nil}
use Rattle.std.specs.Prelude.{List, filter, flat_map, nat_lt}
use Rattle.std.proofs.lemmas.Bool.{and_parts}
use Rattle.std.proofs.lemmas.Bool.Decides.{nat_tests}
use Rattle.std.proofs.lemmas.Grind.{common_steps}
use Rattle.pr_page.specs.declared.paper.Row.{Row}
use Rattle.pr_dots.specs.Sheets.{first_sheet, is_on, lowered_row, lowered_rows}
use Rattle.pr_pdf.specs.Sheets.{row_pdf}
use Rattle.pr_pdf.proofs.Sheeted.{none_left, row_more}
use Rattle.pr_pdf.proofs.sheets.push_rows.Goals as goal

pub returns-then-is_past : goal.returns-then-is_past
returns-then-is_past c =
    let parts = and_parts c.args.ascending (nat_lt c.args.sheet (first_sheet (lowered_row c.args.top c.row-item.result))) (sym c.is_past.ensures ∙ c.if-is_past.true) in
    let later : nat_lt c.args.sheet (first_sheet (lowered_row c.args.top c.row-item.result)) ≡ true = parts.1 in
    let past : c.args.sheet < first_sheet (lowered_row c.args.top c.row-item.result) = grind (arith, nat_tests, later) in
    let none : filter (is_on c.args.sheet) (lowered_rows c.args.top (drop c.loop-row.row-index c.args.rows.now)) ≡ [] =
    none_left c.args.top c.args.sheet c.loop-row.row-index c.args.rows.now c.row-item.result c.loop-row-test.true c.row-item.is (c.requires parts.0) past in
    sym (append-nil c.loop-row.text.items)
    ∙ (ap (λ (rs : List Row). c.loop-row.text.items ++ flat_map (row_pdf c.args.sheet) rs) (sym none) ∙ c.loop-row.invariant)

pub loop-row-preserved : goal.loop-row-preserved
loop-row-preserved c =
    grind (arith, common_steps, row_more (row_pdf c.args.sheet) (is_on c.args.sheet) c.args.top c.loop-row.row-index c.args.rows.now c.row-item.result)
