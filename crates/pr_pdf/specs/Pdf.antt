-- Trusted: papers as a PDF document (ISO 32000-1): objects that are numbered from 1 on, a table of the places at which
-- they begin, and a trailer.
use Rattle.std.specs.Prelude.{ℕ, ◌+◌, ◌-◌, ◌*◌, ◌/◌, ◌%◌, Bool, List, [], ◌∷◌, ◌++◌, ◌&&◌, decimal, flat_map, length, map, nat_lt, replicate, if◌then◌else◌}
use Rattle.std.specs.List.{concat}
use Rattle.pr_page.specs.declared.paper.Paper.{Paper}
use Rattle.pr_page.specs.declared.paper.Row.{Row}
use Rattle.pr_page.specs.declared.paper.Mark.{Mark}
use Rattle.pr_render.specs.declared.format.Size.{Size}
use Rattle.pr_serial.specs.declared.Present.{Present}
use Rattle.pr_dots.specs.declared.character_sets.Shapes.{Shapes}
use Rattle.pr_pdf.specs.Fonts.{characters_pdf, encoding_pdf, font_pdf, glyph_pdf, resources_pdf, used_among, used_before, used_of, widths_pdf}
use Rattle.pr_pdf.specs.Parts.{bookmark_after, bookmark_before, bookmark_begin, bookmark_end, bookmark_fit, bookmark_parent, bookmark_place, bookmark_sheet, bookmarks_begin, bookmarks_count, bookmarks_end, bookmarks_last, catalog_begin, catalog_pages, labels_begin, labels_end, header, list_end, object_begin, object_end, frame, page_begin, page_content, page_end, pages_begin, pages_kids, place_end, reference, reference_end, stream_begin, stream_bytes, stream_end, table_begin, table_free, trailer_begin, trailer_end, trailer_root}
use Rattle.pr_dots.specs.Sheets.{sheet_count}
use Rattle.pr_pdf.specs.Sheets.{sheet_pdf, sheet_texts}
use Rattle.pr_pdf.specs.Words.{numbers_from}

-- an object with its number
unfoldable pub object_pdf : ℕ → List ℕ → List ℕ
object_pdf number body = decimal number ++ object_begin ++ body ++ object_end

-- objects from a number on
abbrev pub objects_from : ℕ → List (List ℕ) → List (List ℕ)
objects_from number [] = []
objects_from number (body ∷ bodies) = object_pdf number body ∷ objects_from (number + 1) bodies

-- the first line, and all objects
unfoldable pub front_pdf : List (List ℕ) → List ℕ
front_pdf bodies = header ++ concat (objects_from 1 bodies)

-- where texts begin, one after the other, from a place on
abbrev pub places_from : ℕ → List (List ℕ) → List ℕ
places_from place [] = []
places_from place (text ∷ texts) = place ∷ places_from (place + length text) texts

-- where each object begins
abbrev pub places_of : List (List ℕ) → List ℕ
places_of bodies = places_from (length header) (objects_from 1 bodies)

-- a place in ten digits
unfoldable pub place_pdf : ℕ → List ℕ
place_pdf place = replicate (10 - length (decimal place)) 48 ++ decimal place ++ place_end

-- the table of the places
unfoldable pub table_pdf : List ℕ → List ℕ
table_pdf places = table_begin ++ decimal (length places + 1) ++ table_free ++ flat_map place_pdf places

-- the trailer, and where the table begins
unfoldable pub trailer_pdf : (count table : ℕ) → List ℕ
trailer_pdf count table = trailer_begin ++ decimal (count + 1) ++ trailer_root ++ decimal table ++ trailer_end

-- the file of these objects
unfoldable pub file_of : List (List ℕ) → List ℕ
file_of bodies =
    front_pdf bodies ++ table_pdf (places_of bodies) ++ trailer_pdf (length bodies) (length (front_pdf bodies))

-- the most bytes of a file: ten digits say a place in it
abbrev pub file_limit : ℕ
file_limit = 9999999999

-- a stream of bytes
unfoldable pub stream_pdf : List ℕ → List ℕ
stream_pdf bytes = stream_begin ++ decimal (length bytes) ++ stream_bytes ++ bytes ++ stream_end

-- both printers have sheets
abbrev pub are_two : (count4 count5 : ℕ) → Bool
are_two count4 count5 = nat_lt 0 count4 && nat_lt 0 count5

-- the names of this many sheets of each printer, and their bookmarks, the third object after that of the sheets, where both have some
unfoldable pub labels_pdf : (pages count4 count5 : ℕ) → List ℕ
labels_pdf pages count4 count5 =
    if are_two count4 count5 then labels_begin ++ decimal count4 ++ labels_end ++ decimal (pages + 2) ++ reference else []

-- the object that begins the document, with the number of the one that has its sheets, and with how many sheets each printer has
unfoldable pub catalog_pdf : (pages count4 count5 : ℕ) → List ℕ
catalog_pdf pages count4 count5 =
    catalog_begin ++ labels_pdf pages count4 count5 ++ catalog_pages ++ decimal pages ++ reference_end

-- all bookmarks of sheets, which are objects after this one
unfoldable pub bookmarks_pdf : (root count : ℕ) → List ℕ
bookmarks_pdf root count =
    bookmarks_begin ++ decimal (root + 1) ++ bookmarks_last ++ decimal (root + count) ++ bookmarks_count ++ decimal count ++ bookmarks_end

-- another bookmark, if there is one
abbrev pub neighbour_pdf : Bool → List ℕ → ℕ → List ℕ
neighbour_pdf is_there name number = if is_there then name ++ decimal number ++ bookmark_end else []

-- the printer of a sheet in the document, counted from 0, and its number from 1 among that printer's
abbrev pub printer_of : (count4 index : ℕ) → ℕ
printer_of count4 index = if nat_lt index count4 then 4 else 5

abbrev pub sheet_of : (count4 index : ℕ) → ℕ
sheet_of count4 index = if nat_lt index count4 then index + 1 else index + 1 - count4

-- a bookmark: what it is called, its sheet, and its neighbours
unfoldable pub bookmark_pdf : (root first count4 count index : ℕ) → List ℕ
bookmark_pdf root first count4 count index =
    bookmark_begin ++ decimal (printer_of count4 index) ++ bookmark_sheet ++ decimal (sheet_of count4 index)
    ++ bookmark_parent ++ decimal root ++ bookmark_place ++ decimal (first + 2 * index) ++ bookmark_fit
    ++ neighbour_pdf (nat_lt 0 index) bookmark_before (root + index)
    ++ neighbour_pdf (nat_lt (index + 1) count) bookmark_after (root + index + 2) ++ bookmarks_end

-- the objects of the bookmarks, where both printers have sheets
abbrev pub bookmark_bodies : (root first count4 count5 : ℕ) → List (List ℕ)
bookmark_bodies root first count4 count5 =
    if are_two count4 count5
    then bookmarks_pdf root (count4 + count5) ∷ map (bookmark_pdf root first count4 (count4 + count5)) (numbers_from 0 (count4 + count5))
    else []

-- a sheet, with the numbers of the object that has the sheets, of what is drawn first on every sheet, the object after that, and of
-- what it draws itself
unfoldable pub page_pdf : (pages content : ℕ) → List ℕ
page_pdf pages content =
    page_begin ++ decimal pages ++ page_content ++ decimal (pages + 1) ++ reference ++ decimal content ++ page_end

-- the objects of sheets from a number on: two for each
abbrev pub sheet_bodies : (pages number : ℕ) → List (List ℕ) → List (List ℕ)
sheet_bodies pages number [] = []
sheet_bodies pages number (sheet ∷ sheets) =
    page_pdf pages (number + 1) ∷ stream_pdf sheet ∷ sheet_bodies pages (number + 2) sheets

-- a sheet among the others: its number counts from 0
unfoldable pub kid_pdf : (first sheet : ℕ) → List ℕ
kid_pdf first sheet = decimal (first + 2 * sheet) ++ reference

-- all sheets, on paper of this size, the first of which is an object with this number
unfoldable pub pages_pdf : Size → (first count : ℕ) → List ℕ
pages_pdf size first count =
    pages_begin size ++ decimal count ++ pages_kids ++ flat_map (kid_pdf first) (numbers_from 0 count) ++ list_end

-- objects 1 to 9
abbrev pub first_bodies : (pages count4 count5 : ℕ) → List (List ℕ)
first_bodies pages count4 count5 =
    catalog_pdf pages count4 count5 ∷ resources_pdf ∷ encoding_pdf ∷ widths_pdf 6 ∷ widths_pdf 12 ∷ widths_pdf 1
    ∷ stream_pdf (characters_pdf 0) ∷ stream_pdf (characters_pdf 1) ∷ stream_pdf (characters_pdf 2) ∷ []

-- a glyph's object
abbrev pub glyph_body : Shapes → ℕ → List ℕ
glyph_body shapes number = stream_pdf (glyph_pdf shapes (number / 256) (number % 256))

-- the last two objects: all sheets, and what is drawn first on each
abbrev pub last_bodies : Size → (holes : Bool) → (first count : ℕ) → List (List ℕ)
last_bodies size holes first count = pages_pdf size first count ∷ stream_pdf (frame size holes) ∷ []

-- all objects, of which `first` is the number of the first sheet; of this many sheets each printer has printed some
abbrev pub bodies_from : Shapes → Size → (holes : Bool) → (first : ℕ) → List Bool → List (List ℕ) → (count4 count5 : ℕ) → List (List ℕ)
bodies_from shapes size holes first used sheets count4 count5 =
    first_bodies (first + 2 * length sheets) count4 count5 ++ map (font_pdf used) (numbers_from 0 9)
    ++ map (glyph_body shapes) (used_among used 0 2304)
    ++ sheet_bodies (first + 2 * length sheets) first sheets ++ last_bodies size holes first (length sheets)
    ++ bookmark_bodies (first + 2 * length sheets + 2) first count4 count5

-- the rows of the printers that are drawn
abbrev pub rows_if : Bool → Paper → List Row
rows_if drawn paper = if drawn then paper.rows else []

-- the marks of rows
abbrev pub marks_of : List Row → List Mark
marks_of rows = map (λ placed. placed.mark) (flat_map (λ row. row.marks) rows)

-- an empty sheet where there are none
abbrev pub or_empty : List (List ℕ) → List (List ℕ)
or_empty [] = sheet_pdf [] 0 ∷ []
or_empty (sheet ∷ sheets) = sheet ∷ sheets

-- the file of rows of both printers: the first one's sheets, then the second one's
abbrev pub rows_pdf : Shapes → Size → (holes : Bool) → (rows4 rows5 : List Row) → List ℕ
rows_pdf shapes size holes rows4 rows5 = rows_with (used_of (marks_of rows4 ++ marks_of rows5))
  where
    rows_with : List Bool → List ℕ
    rows_with used =
        file_of (bodies_from shapes size holes (19 + used_before used 2304) used (or_empty (sheet_texts rows4 ++ sheet_texts rows5)) (sheet_count rows4) (sheet_count rows5))

-- papers that are printed in these shapes, as a document of sheets on paper of a size, with its holes or without. Marks that are held
-- have no place yet, and are left out
unfoldable pub pdf_of : Shapes → Size → (holes : Bool) → (paper4 paper5 : Paper) → Present → List ℕ
pdf_of shapes size holes paper4 paper5 drawn = rows_pdf shapes size holes (rows_if drawn.four paper4) (rows_if drawn.five paper5)
