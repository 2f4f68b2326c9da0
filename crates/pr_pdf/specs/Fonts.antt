-- Trusted: the fonts of the document and their glyphs.
-- A unit is 1/2520 inch: a dot column is 42 units wide, and 1/126 inch is 20 units.
use Rattle.std.specs.Prelude.{ℕ, ◌+◌, ◌-◌, ◌*◌, ◌/◌, ◌%◌, Bool, false, List, [], ◌∷◌, ◌++◌, ◌==◌, nat_lt, codes, decimal, filter, flat_map, length, map, slice_index_or, if◌then◌else◌}
use Rattle.std.specs.List.{list_any}
use Rattle.pr_page.specs.declared.paper.Mark.{Mark}
use Rattle.pr_page.specs.declared.paper.Mark.TheVariants.{Cell, Dots}
use Rattle.pr_dots.specs.Dots.{Dot, columns_dots, columns_of}
use Rattle.pr_dots.specs.declared.character_sets.Shapes.{Shapes}
use Rattle.pr_render.specs.Characters.{character}
use Rattle.pr_pdf.specs.Parts.{characters_begin, characters_end, dictionary_end, disc_move, disc_stroke, encoding_begin, font_begin, font_characters, font_glyphs, fonts_begin, glyph_box, glyph_strokes, list_end, reference}
use Rattle.pr_pdf.specs.Words.{bit, hex_4, numbers_from}

-- the font of a mark: four for each character set, the graphic/upper case set first, of which the second is wide, the
-- third reversed and the fourth both; and the last font has the columns of dots
abbrev pub font_of : Mark → ℕ
font_of (Cell code lower reverse wide) = (if lower then 4 else 0) + (if reverse then 2 else 0) + (if wide then 1 else 0)
font_of (Dots value) = 8

-- the code of a mark in its font
abbrev pub code_of : Mark → ℕ
code_of (Cell code lower reverse wide) = code
code_of (Dots value) = value

-- the mark of a code in a font
abbrev pub mark_of : (font code : ℕ) → Mark
mark_of font code = if font == 8 then Dots code else Cell code (bit 4 font) (bit 2 font) (bit 1 font)

-- the names of the fonts: U (graphic/upper case) or L (lower/upper case), with R if reversed and W if wide;
-- and D for columns of dots
unfoldable pub font_names : List (List ℕ)
font_names =
    codes "U" ∷ codes "UW" ∷ codes "UR" ∷ codes "URW"
    ∷ codes "L" ∷ codes "LW" ∷ codes "LR" ∷ codes "LRW" ∷ codes "D" ∷ []

-- the name of a font
abbrev pub font_name : ℕ → List ℕ
font_name font = slice_index_or font_names font []

-- how many dot columns a glyph of a font has
abbrev pub font_columns : ℕ → ℕ
font_columns font = if font == 8 then 1 else (if bit 1 font then 12 else 6)

-- a disc: its middle, in units to the right and up
pub record Disc : Type 0 where
  pub across : ℕ
  pub up : ℕ

-- the disc of a mark's dot: the lowest of its seven dots are on the base line
abbrev pub glyph_disc : Dot → Disc
glyph_disc dot = record { across = 42 * dot.x + 21; up = 240 - 20 * dot.y }

-- the discs of a mark in these shapes
abbrev pub glyph_discs : Shapes → Mark → List Disc
glyph_discs shapes mark = map glyph_disc (columns_dots 0 0 (columns_of shapes mark))

-- a disc: a stroke without length, whose ends are round
unfoldable pub disc_pdf : Disc → List ℕ
disc_pdf disc =
    decimal disc.across ++ codes " " ++ decimal disc.up ++ disc_move
    ++ decimal disc.across ++ codes " " ++ decimal disc.up ++ disc_stroke

-- a glyph: its width, the box that holds its discs, strokes 58 units wide with round ends,
-- and the discs
unfoldable pub glyph_pdf : Shapes → (font code : ℕ) → List ℕ
glyph_pdf shapes font code =
    decimal (42 * font_columns font) ++ glyph_box ++ decimal (42 * font_columns font + 8) ++ glyph_strokes
    ++ flat_map disc_pdf (glyph_discs shapes (mark_of font code))

-- a number for each glyph: its code, and 256 for each font before its own
abbrev pub number_of : Mark → ℕ
number_of mark = 256 * font_of mark + code_of mark

-- a mark has a glyph's number
abbrev pub has_number : ℕ → Mark → Bool
has_number number mark = number_of mark == number

-- which of the 2304 glyphs marks use
unfoldable pub used_of : List Mark → List Bool
used_of marks = map (λ number. list_any (has_number number) marks) (numbers_from 0 2304)

-- the numbers of the glyphs that are used, among those from a number on
abbrev pub used_among : List Bool → (first count : ℕ) → List ℕ
used_among used first count = filter (λ number. slice_index_or used number false) (numbers_from first count)

-- how many of the glyphs before a number are used
abbrev pub used_before : List Bool → ℕ → ℕ
used_before used number = length (used_among used 0 number)

-- each code's name: `c` and the code; but `m` for 128, which no mark has: programs that find text take a font's size from the width of
-- its `m`, so that letters and wide letters of a line have one size
unfoldable pub code_name : ℕ → List ℕ
code_name code = if code == 128 then codes "/m " else codes "/c" ++ decimal code ++ codes " "

-- the encoding of all fonts
unfoldable pub encoding_pdf : List ℕ
encoding_pdf = encoding_begin ++ flat_map code_name (numbers_from 0 256) ++ list_end

-- the width of a glyph of this many dot columns, whatever its code; but `m` is as wide as a letter
unfoldable pub width_pdf : (columns code : ℕ) → List ℕ
width_pdf columns code = decimal (42 * (if code == 128 then 6 else columns)) ++ codes " "

-- the widths of 256 glyphs of this many dot columns
unfoldable pub widths_pdf : ℕ → List ℕ
widths_pdf columns = codes "[" ++ flat_map (width_pdf columns) (numbers_from 0 256) ++ codes "]"

-- a character in UTF-16, in hexadecimal digits
abbrev pub utf_16 : ℕ → List ℕ
utf_16 u =
    if nat_lt u 65536 then hex_4 u
    else hex_4 (55296 + (u - 65536) / 1024) ++ hex_4 (56320 + u % 1024)

-- the character of a code in a set (0 graphic/upper case, 1 lower/upper case), where a blank is a space;
-- the character of a column of dots (2) is a space
abbrev pub set_character : (set code : ℕ) → ℕ
set_character set code =
    if set == 2 then 32
    else (if character (set == 1) code == 160 then 32 else character (set == 1) code)

-- a code's character
unfoldable pub character_pdf : (set code : ℕ) → List ℕ
character_pdf set code = codes "<" ++ utf_16 (set_character set code) ++ codes ">"

-- the characters of a set's codes, with which text is found and copied
unfoldable pub characters_pdf : ℕ → List ℕ
characters_pdf set = characters_begin ++ flat_map (character_pdf set) (numbers_from 0 256) ++ characters_end

-- the object that says a font's widths: 4 of cells, 5 of wide cells, 6 of columns of dots
abbrev pub widths_object : ℕ → ℕ
widths_object font = if font == 8 then 6 else (if bit 1 font then 5 else 4)

-- a glyph's object: the first that is used has number 19
abbrev pub glyph_object : List Bool → ℕ → ℕ
glyph_object used number = 19 + used_before used number

-- a glyph among those of its font
unfoldable pub proc_pdf : List Bool → ℕ → List ℕ
proc_pdf used number = code_name (number % 256) ++ decimal (glyph_object used number) ++ reference

-- a font: objects 7 to 9 have the characters of its codes
unfoldable pub font_pdf : List Bool → ℕ → List ℕ
font_pdf used font =
    font_begin ++ decimal (widths_object font) ++ font_characters ++ decimal (7 + font / 4)
    ++ font_glyphs ++ flat_map (proc_pdf used) (used_among used (256 * font) 256) ++ dictionary_end

-- a font's name and its object
unfoldable pub font_entry : ℕ → List ℕ
font_entry font = codes "/" ++ font_name font ++ codes " " ++ decimal (10 + font) ++ reference

-- the fonts by their names: objects 10 to 18
unfoldable pub resources_pdf : List ℕ
resources_pdf = fonts_begin ++ flat_map font_entry (numbers_from 0 9) ++ dictionary_end
