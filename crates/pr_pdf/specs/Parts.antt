-- Trusted: the fixed parts of the document.
use Rattle.std.specs.Prelude.{◌++◌, ℕ, Bool, List, [], codes, if◌then◌else◌}
use Rattle.pr_render.specs.declared.format.Size.{Size}
use Rattle.pr_render.specs.declared.format.Size.TheVariants.{Continuous, A4, Letter}

-- the first line
unfoldable pub header : List ℕ
header = codes "%PDF-1.6\n"

-- after an object's number
unfoldable pub object_begin : List ℕ
object_begin = codes " 0 obj\n"

-- the end of an object
unfoldable pub object_end : List ℕ
object_end = codes "\nendobj\n"

-- after the number of an object that is named
unfoldable pub reference : List ℕ
reference = codes " 0 R "

-- the same at the end of a dictionary
unfoldable pub reference_end : List ℕ
reference_end = codes " 0 R >>"

-- the end of a dictionary in a dictionary
unfoldable pub dictionary_end : List ℕ
dictionary_end = codes ">> >>"

-- the end of a list in a dictionary
unfoldable pub list_end : List ℕ
list_end = codes "] >>"

-- a stream, up to its length
unfoldable pub stream_begin : List ℕ
stream_begin = codes "<< /Length "

-- up to its bytes
unfoldable pub stream_bytes : List ℕ
stream_bytes = codes " >>\nstream\n"

-- and after them
unfoldable pub stream_end : List ℕ
stream_end = codes "\nendstream"

-- the object that begins the document: viewers are not to scale its sheets for printing
unfoldable pub catalog_begin : List ℕ
catalog_begin = codes "<< /Type /Catalog /ViewerPreferences << /PrintScaling /None >> "

-- up to the object that has its sheets
unfoldable pub catalog_pages : List ℕ
catalog_pages = codes "/Pages "

-- the names of sheets: those of printer 4, up to how many they are
unfoldable pub labels_begin : List ℕ
labels_begin = codes "/PageLabels << /Nums [ 0 << /P (printer 4, sheet ) /S /D >> "

-- those of printer 5, and up to the object that has the bookmarks
unfoldable pub labels_end : List ℕ
labels_end = codes " << /P (printer 5, sheet ) /S /D >> ] >> /Outlines "

-- the bookmarks, up to the first, up to the last, and up to how many they are
unfoldable pub bookmarks_begin : List ℕ
bookmarks_begin = codes "<< /Type /Outlines /First "

unfoldable pub bookmarks_last : List ℕ
bookmarks_last = codes " 0 R /Last "

unfoldable pub bookmarks_count : List ℕ
bookmarks_count = codes " 0 R /Count "

unfoldable pub bookmarks_end : List ℕ
bookmarks_end = codes " >>"

-- a bookmark, up to its printer, its sheet, the object of all bookmarks, and the sheet's object
unfoldable pub bookmark_begin : List ℕ
bookmark_begin = codes "<< /Title (printer "

unfoldable pub bookmark_sheet : List ℕ
bookmark_sheet = codes ", sheet "

unfoldable pub bookmark_parent : List ℕ
bookmark_parent = codes ") /Parent "

unfoldable pub bookmark_place : List ℕ
bookmark_place = codes " 0 R /Dest [ "

unfoldable pub bookmark_fit : List ℕ
bookmark_fit = codes " 0 R /Fit ]"

-- the bookmark before it, and after it
unfoldable pub bookmark_before : List ℕ
bookmark_before = codes " /Prev "

unfoldable pub bookmark_after : List ℕ
bookmark_after = codes " /Next "

-- after the number of such a bookmark
unfoldable pub bookmark_end : List ℕ
bookmark_end = codes " 0 R"

-- the fonts by their names
unfoldable pub fonts_begin : List ℕ
fonts_begin = codes "<< /Font << "

-- the encoding of all fonts
unfoldable pub encoding_begin : List ℕ
encoding_begin = codes "<< /Type /Encoding /Differences [0 "

-- a set's characters: one range of 256 codes, up to the character of code 0
unfoldable pub characters_begin : List ℕ
characters_begin =
    codes "/CIDInit /ProcSet findresource begin\n12 dict begin\nbegincmap\n"
    ++ codes "/CIDSystemInfo << /Registry (Adobe) /Ordering (UCS) /Supplement 0 >> def\n"
    ++ codes "/CMapName /Adobe-Identity-UCS def\n/CMapType 2 def\n"
    ++ codes "1 begincodespacerange\n<00> <ff>\nendcodespacerange\n1 beginbfrange\n<00> <ff> ["

-- after the last character
unfoldable pub characters_end : List ℕ
characters_end = codes "]\nendbfrange\nendcmap\nCMapName currentdict /CMap defineresource pop\nend\nend"

-- a font, up to its widths: its box holds the discs of all glyphs
unfoldable pub font_begin : List ℕ
font_begin =
    codes "<< /Type /Font /Subtype /Type3 /FontBBox [-8 -29 512 269] /FontMatrix [1 0 0 1 0 0] "
    ++ codes "/FirstChar 0 /LastChar 255 /Encoding 3 0 R /Resources << >> /Widths "

-- up to its codes' characters
unfoldable pub font_characters : List ℕ
font_characters = codes " 0 R /ToUnicode "

-- up to its glyphs
unfoldable pub font_glyphs : List ℕ
font_glyphs = codes " 0 R /CharProcs << "

-- after a glyph's width: the box that holds its discs, up to its right edge
unfoldable pub glyph_box : List ℕ
glyph_box = codes " 0 -8 -29 "

-- the box is as high as seven dots; strokes are 58 units wide, as far as the place of a dot, 42 by 40, reaches from corner to corner,
-- with round ends
unfoldable pub glyph_strokes : List ℕ
glyph_strokes = codes " 269 d1\n58 w 1 J\n"

-- a sheet, up to the object that has the sheets
unfoldable pub page_begin : List ℕ
page_begin = codes "<< /Type /Page /Parent "

-- up to what is drawn first on every sheet
unfoldable pub page_content : List ℕ
page_content = codes " 0 R /Contents [ "

-- after what it draws itself
unfoldable pub page_end : List ℕ
page_end = codes " 0 R ] >>"

-- the sheets, up to their count: of continuous paper 9.5 by 11 inches, of A4 210 by 297 millimetres, of letter 8.5 by 11 inches
unfoldable pub pages_begin : Size → List ℕ
pages_begin Continuous = codes "<< /Type /Pages /MediaBox [0 0 684 792] /Resources 2 0 R /Count "
pages_begin A4 = codes "<< /Type /Pages /MediaBox [0 0 595.276 841.89] /Resources 2 0 R /Count "
pages_begin Letter = codes "<< /Type /Pages /MediaBox [0 0 612 792] /Resources 2 0 R /Count "

-- where the 9.5 by 11 inches of a sheet are on the paper, of which only they are drawn: on A4 in the middle, on letter there too, at
-- 95 %
unfoldable pub size_frame : Size → List ℕ
size_frame Continuous = []
size_frame A4 = codes "1 0 0 1 -44.362 24.945 cm\n0 0 684 792 re W n\n"
size_frame Letter = codes ".95 0 0 .95 -18.9 19.8 cm\n0 0 684 792 re W n\n"

-- the strips of a sheet: 22 holes in each, half an inch apart, the lines at which they tear off, and the folds
unfoldable pub strips : List ℕ
strips =
    codes "q .8 G 11.4 w 1 J [.01 35.99] 0 d 18 18 m 18 774.1 l 666 18 m 666 774.1 l S\n"
    ++ codes "0 J .5 w [2] 0 d 36 0 m 36 792 l 648 0 m 648 792 l 0 .25 m 684 .25 l 0 791.75 m 684 791.75 l S Q\n"

-- what is drawn first on every sheet
unfoldable pub frame : Size → (holes : Bool) → List ℕ
frame size holes = size_frame size ++ (if holes then strips else [])

-- up to the first sheet
unfoldable pub pages_kids : List ℕ
pages_kids = codes " /Kids [ "

-- what a sheet draws: 1/35 point a unit (a little more across and a little less up, so that a viewer that rounds down
-- to whole pixels does not lose one), from 3/4 inch from the left and 8 points below the lower edge
unfoldable pub sheet_begin : List ℕ
sheet_begin = codes ".0285714286 0 0 .0285714285 54 -8 cm\nBT\n"

-- and its end
unfoldable pub sheet_end : List ℕ
sheet_end = codes "ET\n"

-- after a font's name: a run's place
unfoldable pub run_place : List ℕ
run_place = codes " 1 Tf 1 0 0 1 "

-- up to its codes
unfoldable pub run_codes : List ℕ
run_codes = codes " Tm <"

-- after them
unfoldable pub run_end : List ℕ
run_end = codes "> Tj\n"

-- from where a disc's stroke begins
unfoldable pub disc_move : List ℕ
disc_move = codes " m "

-- to the same place, and the stroke is drawn
unfoldable pub disc_stroke : List ℕ
disc_stroke = codes " l S\n"

-- the table of places, up to their count
unfoldable pub table_begin : List ℕ
table_begin = codes "xref\n0 "

-- the place that is no object's
unfoldable pub table_free : List ℕ
table_free = codes "\n0000000000 65535 f \n"

-- after a place
unfoldable pub place_end : List ℕ
place_end = codes " 00000 n \n"

-- the trailer, up to the count of places
unfoldable pub trailer_begin : List ℕ
trailer_begin = codes "trailer\n<< /Size "

-- up to where the table begins
unfoldable pub trailer_root : List ℕ
trailer_root = codes " /Root 1 0 R >>\nstartxref\n"

-- and the last line
unfoldable pub trailer_end : List ℕ
trailer_end = codes "\n%%EOF\n"
