-- The text of a sheet.
use Rattle.std.proofs.Common.{◌≡◌, ℕ, ◌-◌, Bool, true, false, cond, List, Ok, Err, refl, sym, ap, ◌∙◌}
use Rattle.std.specs.Prelude.{◌&&◌, ◌||◌, nat_le, if◌then◌else◌}
use Rattle.pr_page.specs.declared.paper.Paper.{Paper}
use Rattle.pr_dots.specs.Sheets.{lowered, sheets_of}
use Rattle.pr_render.specs.SheetSvg.{sheet_svg_of, single_svg, single_top}
use Rattle.pr_render.specs.Svg.{drawn_of, has_printed}
use Rattle.pr_render.specs.declared.format.Format.TheVariants.{Png, Svg}
use Rattle.pr_png.specs.Png.{sheet_png_of}
use Rattle.pr_jobs.specs.Formats.{drawn_sheet, first_paper, left_to, look_of, png_part, sheet_of, shown_of, svg_part}
use Rattle.pr_jobs.specs.Raw.{four_alone, printed_on}
use Rattle.pr_jobs.specs.declared.fault.PictureFault.{PictureFault}
use Rattle.pr_jobs.specs.declared.fault.PictureFault.TheVariants.{NoSuchSheet}
use Rattle.pr_exports.specs.Marked.{IsMarksText, SheetsNeedTheirMarks}
use Rattle.pr_exports.specs.declared.marks.WireMark.{WireMark}
use Rattle.pr_exports.proofs.SheetMarks.{same_rows_on}
use Rattle.pr_exports.proofs.SheetPixels.{same_png}

-- the paper that is shown is that of printer 4
shown_by : (paper : Paper) (t : Bool)
    → first_paper (printed_on paper) (if (t || false) then record { four = t; five = false } else four_alone) ≡ paper
shown_by paper true = refl
shown_by paper false = refl

shown : (paper : Paper) → first_paper (printed_on paper) (drawn_of (printed_on paper) four_alone) ≡ paper
shown paper = shown_by paper (has_printed paper)

-- a sheet that is drawn is the one that is asked for
asked : (draw : ℕ → List ℕ) (sheet : ℕ) (fault : PictureFault) (text : List ℕ) (t : Bool)
    → drawn_sheet draw (cond t (Ok (sheet - 1)) (Err fault)) ≡ Ok text → text ≡ draw (sheet - 1)
asked draw sheet fault text true is = sym (cc (is))
asked draw sheet fault text false is = absurd (cc)

of_sheet : (draw : Paper → ℕ → List ℕ) (sheet : ℕ) (paper : Paper) (text : List ℕ)
    → sheet_of draw sheet paper ≡ Ok text → text ≡ draw paper (sheet - 1)
of_sheet draw sheet paper text is =
    asked (draw paper) sheet (NoSuchSheet (sheets_of paper)) text
    (nat_le 1 sheet && nat_le sheet (sheets_of paper)) is

pub sheets_svg : SheetsNeedTheirMarks Svg
sheets_svg shapes part sheet marks other text again no_device one same is so =
    let draw = sheet_svg_of shapes in
    let top = part.layout.top in
    let drawn : (marks : List WireMark) (text : List ℕ) (is : IsMarksText shapes (Svg part) marks text)
    → text ≡ draw (lowered top is.paper) (sheet - 1) =
    λ marks text is. of_sheet draw sheet (lowered top is.paper) text (
    ap (λ p. sheet_of draw sheet (lowered top p)) (sym (shown is.paper))
    ∙ ap (λ s. svg_part shapes top s four_alone (printed_on is.paper)) (sym one)
    ∙ ap (λ d. svg_part shapes top part.sheet (shown_of d four_alone) (left_to d (printed_on is.paper)))
    (sym no_device) ∙ is.is_text) in
    drawn marks text is
    ∙ ap (single_svg shapes (single_top (sheet - 1)))
    (same_rows_on top (sheet - 1) marks other is.paper so.paper is.has_marks so.has_marks same)
    ∙ sym (drawn other again so)

pub sheets_png : SheetsNeedTheirMarks Png
sheets_png shapes part sheet marks other text again no_device one same is so =
    let draw = sheet_png_of shapes (look_of part) in
    let top = part.layout.top in
    let drawn : (marks : List WireMark) (text : List ℕ) (is : IsMarksText shapes (Png part) marks text)
    → text ≡ draw (lowered top is.paper) (sheet - 1) =
    λ marks text is. of_sheet draw sheet (lowered top is.paper) text (
    ap (λ p. sheet_of draw sheet (lowered top p)) (sym (shown is.paper))
    ∙ ap (λ s. png_part shapes top (look_of part) s four_alone (printed_on is.paper)) (sym one)
    ∙ ap (λ d. png_part shapes top (look_of part) part.sheet (shown_of d four_alone)
    (left_to d (printed_on is.paper))) (sym no_device) ∙ is.is_text) in
    drawn marks text is
    ∙ same_png shapes (look_of part) (sheet - 1) (lowered top is.paper) (lowered top so.paper)
    (same_rows_on top (sheet - 1) marks other is.paper so.paper is.has_marks so.has_marks same)
    ∙ sym (drawn other again so)
