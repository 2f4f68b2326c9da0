use Rattle.std.proofs.Common.{◌+◌, ◌*◌, ◌∙◌, ap, refl}
use Rattle.std.specs.Prelude.{◌≡◌, ◌++◌}
use Rattle.pr_dots.specs.Sheets.{lowered_rows}
use Rattle.pr_pdf.specs.Fonts.{used_of}
use Rattle.pr_pdf.specs.Pdf.{marks_of}
use Rattle.pr_pdf.proofs.Sheeted.{lowered_marks}
use Rattle.pr_pdf.proofs.Objects.{cons_adds, then_adds}
use Rattle.pr_pdf.proofs.Whole.{rows_drawn}
use Rattle.pr_pdf.proofs.drawing.draw.Goals as goal

pub returns : goal.returns
returns c =
    let marks4 : marks_of (lowered_rows c.args.layout.top c.args.rows4.now) ≡ marks_of c.args.rows4.now = lowered_marks c.args.layout.top c.args.rows4.now in
    let marks5 : marks_of (lowered_rows c.args.layout.top c.args.rows5.now) ≡ marks_of c.args.rows5.now = lowered_marks c.args.layout.top c.args.rows5.now in
    let used : c.in_ok-used.used ≡ used_of (marks_of (lowered_rows c.args.layout.top c.args.rows4.now) ++ marks_of (lowered_rows c.args.layout.top c.args.rows5.now)) =
    rw (marks4, marks5) c.in_ok-used.ensures in
    c.in_ok-file.ensures
    ∙ rows_drawn c.args.shapes.now c.args.layout.size c.args.layout.holes (lowered_rows c.args.layout.top c.args.rows4.now) (lowered_rows c.args.layout.top c.args.rows5.now) (19 + c.before-glyphs.result) (19 + c.before-glyphs.result + 2 * c.all_sheet_count-count.result)
    c.all_sheet_count-count.result c.sheet_count-count4.result c.sheet_count-count5.result c.in_ok-used.used c.in_ok-document.document c.add_all_sheets.new.document c.add_bookmarks.new.document
    used (ap (λ n. 19 + n) c.before-glyphs.ensures.count) refl c.all_sheet_count-count.ensures.count
    c.sheet_count-count4.ensures.count c.sheet_count-count5.ensures.count
    c.in_ok-document.ensures c.in_ok-add_all_sheets.ensures
    (then_adds (cons_adds c.in_ok-add_pages.ensures c.in_ok-add_frame.ensures) c.in_ok-add_bookmarks.ensures)
