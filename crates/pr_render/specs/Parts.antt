-- Trusted: the fixed parts of the picture. A unit of the document is 1/1260 inch.
use Rattle.std.specs.Prelude.{ℕ, List, codes}

-- the document's first tag, 11 inches wide, up to its height in picas
unfoldable pub document_begin : List ℕ
document_begin = codes "<svg xmlns=\"http://www.w3.org/2000/svg\" version=\"1.1\" width=\"66pc\" height=\""

-- what is between its height in picas and its height in units
unfoldable pub units_begin : List ℕ
units_begin = codes "pc\" viewBox=\"0 0 13860 "

-- the rest of that tag, and what the picture shows
unfoldable pub document_about : List ℕ
document_about =
    codes "\">\n<desc>Pages of VIC-1525 printers. Each dot is where the hammer strikes.</desc>\n"

-- half an inch of continuous paper, with a hole at each edge and the lines at which the edges tear
-- off; and the fold at the end of 11 inches
unfoldable pub paper_piece : List ℕ
paper_piece = codes "<pattern id=\"paper\" width=\"12600\" height=\"630\" patternUnits=\"userSpaceOnUse\"><rect width=\"12600\" height=\"630\" fill=\"#fff\"/><g fill=\"#e9e6df\" stroke=\"#b4afa2\" stroke-width=\"10\"><circle cx=\"315\" cy=\"315\" r=\"100\"/><circle cx=\"12285\" cy=\"315\" r=\"100\"/><path stroke-dasharray=\"35\" d=\"M630 0v630M11970 0v630\"/></g></pattern>\n<pattern id=\"folds\" y=\"6930\" width=\"12600\" height=\"13860\" patternUnits=\"userSpaceOnUse\"><path stroke=\"#b4afa2\" stroke-width=\"10\" stroke-dasharray=\"70\" d=\"M0 6930h12600\"/></pattern>\n"

-- the desk under the sheets
unfoldable pub desk : List ℕ
desk = codes "<rect width=\"100%\" height=\"100%\" fill=\"#e9e6df\"/>\n"

-- the definitions of marks
unfoldable pub definitions_begin : List ℕ
definitions_begin = codes "<defs>\n"

-- their end
unfoldable pub definitions_end : List ℕ
definitions_end = codes "</defs>\n"

-- a sheet's place, half an inch from the left, up to its distance from the top
unfoldable pub sheet_begin : List ℕ
sheet_begin = codes "<g transform=\"translate(630 "

-- a sheet's name, up to the printer's number
unfoldable pub sheet_name : List ℕ
sheet_name = codes ")\">\n<text font-size=\"210\" fill=\"#555\" y=\"-210\">Printer "

-- a sheet's paper, up to its height
unfoldable pub sheet_paper : List ℕ
sheet_paper = codes "</text>\n<rect width=\"12600\" height=\""

-- the rest of the paper, and its folds from 1 inch below the upper edge on, up to their height
unfoldable pub paper_folds : List ℕ
paper_folds = codes "\" fill=\"url(#paper)\" stroke=\"#b4afa2\" stroke-width=\"10\"/>\n<rect y=\"1260\" width=\"12600\" height=\""

-- the rest of the folds, and the group of the sheet's marks, up to its distance
unfoldable pub sheet_marks : List ℕ
sheet_marks = codes "\" fill=\"url(#folds)\"/>\n<g transform=\"translate(1260 "

-- the marks of a sheet: strokes 29 units wide, as far as the place of a dot, 21 by 20, reaches from corner to corner; and letters that
-- are not seen
unfoldable pub ink_begin : List ℕ
ink_begin = codes "<g stroke-width=\"29\" stroke-linecap=\"round\" fill-opacity=\"0\" font-size=\"140\">\n"

-- a group at a distance
unfoldable pub row_begin : List ℕ
row_begin = codes "<g transform=\"translate(0 "

-- a pale group at a distance
unfoldable pub held_begin : List ℕ
held_begin = codes "<g opacity=\".4\" transform=\"translate(0 "

-- the use of a mark, up to its name
unfoldable pub use_begin : List ℕ
use_begin = codes "<use href=\"#"

-- what is between its name and its place
unfoldable pub use_place : List ℕ
use_place = codes "\" x=\""

-- the end of a use or of a definition
unfoldable pub use_end : List ℕ
use_end = codes "\"/>\n"

-- what is between a definition's name and its path
unfoldable pub mark_path : List ℕ
mark_path = codes "\" d=\""

-- a mark's definition, up to its name
unfoldable pub mark_begin : List ℕ
mark_begin = codes "<path stroke=\"#222\" id=\""

-- what is between the place of a strip and its width: its base line is seven dots down
unfoldable pub letters_width : List ℕ
letters_width = codes "\" y=\"140\" textLength=\""

-- what follows the width of a strip: the characters of any font are stretched to that width, and blanks are kept
unfoldable pub letters_fitted : List ℕ
letters_fitted = codes "\" lengthAdjust=\"spacingAndGlyphs\" xml:space=\"preserve\">"

-- what follows the distance of the held marks: a dashed rule, and a line that says what they are
unfoldable pub held_note : List ℕ
held_note = codes ")\">\n<path stroke=\"#a33\" stroke-width=\"20\" stroke-dasharray=\"126\" d=\"M0 60h10080\"/>\n<text font-size=\"120\" fill=\"#a33\" x=\"7350\" y=\"200\">held by the printer, not yet printed</text>\n</g>\n"

-- the end of a sheet
unfoldable pub sheet_end : List ℕ
sheet_end = codes "</g>\n</g>\n"

-- the text below the sheets, up to its distance
unfoldable pub notes_begin : List ℕ
notes_begin = codes "<text font-size=\"210\" fill=\"#555\" transform=\"translate(630 "

-- the line of a stop
unfoldable pub stop_begin : List ℕ
stop_begin = codes "<tspan x=\"0\" dy=\"210\" fill=\"#a33\">"

-- the line of the statuses
unfoldable pub status_begin : List ℕ
status_begin = codes "<tspan x=\"0\" dy=\"210\">Status "

-- the end of a text
unfoldable pub text_end : List ℕ
text_end = codes "</text>\n"

-- one sheet: its document's first tag, 10 inches by 11, up to where the sheet begins
unfoldable pub single_begin : List ℕ
single_begin = codes "<svg xmlns=\"http://www.w3.org/2000/svg\" version=\"1.1\" width=\"60pc\" height=\"66pc\" viewBox=\"0 "

-- the sheet's size in units
unfoldable pub single_size : List ℕ
single_size = codes " 12600 13860"

-- the sheet's paper, up to where it begins
unfoldable pub single_paper : List ℕ
single_paper = codes "<rect y=\""

-- the rest of the paper, and the group of the sheet's marks
unfoldable pub single_marks : List ℕ
single_marks = codes "\" width=\"12600\" height=\"13860\" fill=\"url(#paper)\"/>\n<g transform=\"translate(1260 630)\">\n"

-- the end of the document
unfoldable pub single_end : List ℕ
single_end = codes "</svg>\n"
