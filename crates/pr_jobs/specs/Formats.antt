-- Trusted: the text of an outcome in each format, and of each part of its pages; pictures draw characters of some shapes.
use Rattle.std.specs.Prelude.{ℕ, ◌-◌, Bool, true, false, List, ◌&&◌, ◌||◌, not, length, nat_le, nat_lt, if◌then◌else◌, Option, Some, None, Result, Ok, Err}
use Rattle.pr_page.specs.declared.paper.Paper.{Paper}
use Rattle.pr_dots.specs.Sheets.{lowered, sheets_of}
use Rattle.pr_dots.specs.declared.character_sets.Shapes.{Shapes}
use Rattle.pr_serial.specs.declared.Present.{Present}
use Rattle.pr_system.specs.Headline.{empty_paper}
use Rattle.pr_system.specs.declared.outcome.Outcome.{Outcome}
use Rattle.pr_render.specs.Plain.{text_of}
use Rattle.pr_render.specs.SheetSvg.{sheet_svg_of}
use Rattle.pr_render.specs.Svg.{drawn_of, svg_of}
use Rattle.pr_pdf.specs.Pdf.{file_limit, pdf_of}
use Rattle.pr_png.specs.Png.{height_limit, paper_height, paper_png_of, sheet_png_of}
use Rattle.pr_png.specs.declared.look.Look.{Look}
use Rattle.pr_jobs.specs.PageText.{page_text}
use Rattle.pr_render.specs.declared.format.Device.{Device}
use Rattle.pr_render.specs.declared.format.Device.TheVariants.{Four, Five}
use Rattle.pr_render.specs.declared.format.Format.{Format}
use Rattle.pr_render.specs.declared.format.Layout.{Layout}
use Rattle.pr_render.specs.declared.format.Part.{Part}
use Rattle.pr_render.specs.declared.format.Format.TheVariants as format
use Rattle.pr_jobs.specs.declared.fault.PictureFault.{PictureFault}
use Rattle.pr_jobs.specs.declared.fault.PictureFault.TheVariants.{NoSuchSheet, TooLarge}

-- the printers whose pages are shown: the one that is named, or else all that are present
abbrev pub shown_of : Option Device → Present → Present
shown_of None present = present
shown_of (Some Four) present = record { four = true; five = false }
shown_of (Some Five) present = record { four = false; five = true }

-- the outcome without the paper of a printer that is not named, if one is
abbrev pub left_to : Option Device → Outcome → Outcome
left_to None outcome = outcome
left_to (Some Four) outcome = record outcome { paper5 = empty_paper }
left_to (Some Five) outcome = record outcome { paper4 = empty_paper }

-- a paper with a printed row, not only with marks that are held
abbrev pub has_rows : Paper → Bool
has_rows paper = nat_lt 0 (length paper.rows)

-- the paper of which a sheet or a bitmap is shown: that of the first printer with a printed row of those that the picture draws, or
-- else of the first of them
abbrev pub is_second : Outcome → Present → Bool
is_second outcome drawn =
    not drawn.four || (drawn.five && (not (has_rows outcome.paper4) && has_rows outcome.paper5))

abbrev pub first_paper : Outcome → Present → Paper
first_paper outcome drawn = if is_second outcome drawn then outcome.paper5 else outcome.paper4

-- a sheet of a paper by its number from 1, counted from 0; or how many sheets there are, if it has none of this number. The
-- first row of the paper has its distance from the upper edge of the first sheet
abbrev pub sheet_at : Paper → ℕ → Result ℕ PictureFault
sheet_at paper sheet =
    if nat_le 1 sheet && nat_le sheet (sheets_of paper) then Ok (sheet - 1) else Err (NoSuchSheet (sheets_of paper))

-- a sheet that there is, drawn in a way
abbrev pub drawn_sheet : (ℕ → List ℕ) → Result ℕ PictureFault → Result (List ℕ) PictureFault
drawn_sheet draw (Ok sheet) = Ok (draw sheet)
drawn_sheet draw (Err fault) = Err fault

-- a sheet of a paper by its number from 1, drawn in a way
abbrev pub sheet_of : (Paper → ℕ → List ℕ) → ℕ → Paper → Result (List ℕ) PictureFault
sheet_of draw sheet paper = drawn_sheet (draw paper) (sheet_at paper sheet)

-- the SVG document of all pages, or of one sheet; the first row is `top` lines of 1/6 inch below the upper edge
abbrev pub svg_part : Shapes → (top : ℕ) → Option ℕ → Present → Outcome → Result (List ℕ) PictureFault
svg_part shapes top None present outcome = Ok (svg_of shapes top outcome present)
svg_part shapes top (Some sheet) present outcome =
    sheet_of (sheet_svg_of shapes) sheet (lowered top (first_paper outcome (drawn_of outcome present)))

-- a paper as a bitmap, if it is not too high
abbrev pub if_low : Shapes → Look → Paper → Result (List ℕ) PictureFault
if_low shapes look paper =
    if nat_le (paper_height look.scale paper) height_limit then Ok (paper_png_of shapes look paper) else Err TooLarge

-- the paper of one printer as a bitmap, down to its last row, or one sheet of it
abbrev pub png_part : Shapes → (top : ℕ) → Look → Option ℕ → Present → Outcome → Result (List ℕ) PictureFault
png_part shapes top look None present outcome =
    if_low shapes look (lowered top (first_paper outcome (drawn_of outcome present)))
png_part shapes top look (Some sheet) present outcome =
    sheet_of (sheet_png_of shapes look) sheet (lowered top (first_paper outcome (drawn_of outcome present)))

-- how a bitmap is drawn
abbrev pub look_of : Part → Look
look_of part = record { scale = part.scale; holes = part.layout.holes }

-- a document, if it is not too long
abbrev pub if_short : List ℕ → Result (List ℕ) PictureFault
if_short file = if nat_le (length file) file_limit then Ok file else Err TooLarge

-- the sheets of the printers that the picture draws, as one document
abbrev pub pdf_part : Shapes → Layout → Present → Outcome → Result (List ℕ) PictureFault
pdf_part shapes layout present outcome =
    if_short (pdf_of shapes layout.size layout.holes (lowered layout.top outcome.paper4) (lowered layout.top outcome.paper5) (drawn_of outcome present))

-- the page text, lines of 80 columns, or a picture: all but the first show the sheets of the printers that are present
abbrev pub text_in : Shapes → Format → Present → Outcome → Result (List ℕ) PictureFault
text_in shapes format.List present outcome = Ok (page_text outcome)
text_in shapes (format.Lines look) present outcome = Ok (text_of look outcome present)
text_in shapes (format.Svg part) present outcome =
    svg_part shapes part.layout.top part.sheet (shown_of part.device present) (left_to part.device outcome)
text_in shapes (format.Png part) present outcome =
    png_part shapes part.layout.top (look_of part) part.sheet (shown_of part.device present) (left_to part.device outcome)
text_in shapes (format.Pdf device layout) present outcome =
    pdf_part shapes layout (shown_of device present) (left_to device outcome)
