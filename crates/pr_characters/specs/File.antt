-- Trusted: a file of the shapes of characters. It has 256 pictures: those of the graphic/upper case set, then those of the lower/upper
-- case set; each set has the codes 32 to 95 and 160 to 223. A picture is a line that names it, as `upper 65`, and seven rows of six signs,
-- `#` for a dot and `.` for none. Pictures, rows and lines are counted from 0.
use Rattle.std.specs.Prelude.{◌≡◌, ℕ, ◌+◌, ◌-◌, ◌/◌, ◌%◌, ◌^◌, Bool, true, List, [], ◌++◌, ◌==◌, ◌&&◌, nat_lt, codes, decimal, length, map, slice_index_or, take, if◌then◌else◌, Result, Ok, Err}
use Rattle.std.specs.List.{list_all, range_with_len}
use Rattle.pr_base.specs.Lines.{lines_of}
use Rattle.pr_basic.specs.Grammar.{without_return}
use Rattle.pr_dots.specs.declared.character_sets.Shapes.{Shapes}
use Rattle.pr_characters.specs.declared.fault.CharactersFault.{CharactersFault}
use Rattle.pr_characters.specs.declared.fault.CharactersFault.TheVariants.{BadLine}

-- the code at a place of a set
abbrev pub code_at : ℕ → ℕ
code_at place = if nat_lt place 64 then place + 32 else place + 96

-- the line that names a picture
abbrev pub name_line : ℕ → List ℕ
name_line picture =
    if nat_lt picture 128 then codes "upper " ++ decimal (code_at picture)
    else codes "lower " ++ decimal (code_at (picture - 128))

-- the sign of a column in a row: bit 0 of a column is its dot in row 0, the top one
abbrev pub sign : (row column : ℕ) → ℕ
sign row column = if column / 2 ^ row % 2 == 1 then 35 else 46

-- a line of the file of shapes: a picture's name, or a row of it
abbrev pub line_of : Shapes → ℕ → List ℕ
line_of shapes line =
    if line % 8 == 0 then name_line (line / 8)
    else map (sign (line % 8 - 1)) (slice_index_or (shapes.upper ++ shapes.lower) (line / 8) [])

-- the file of shapes: eight lines for each picture
unfoldable pub file_of : Shapes → List (List ℕ)
file_of shapes = map (line_of shapes) (range_with_len 0 2048)

-- the characters of a set: each has six columns of seven dots
abbrev pub is_character : List ℕ → Bool
is_character columns = length columns == 6 && list_all (λ column. nat_lt column 128) columns

abbrev pub are_shapes : Shapes → Bool
are_shapes shapes =
    (length shapes.upper == 128 && list_all is_character shapes.upper)
    && (length shapes.lower == 128 && list_all is_character shapes.lower)

-- the lines of a text: byte 10 ends a line, and so do bytes 13 and 10; the last line may have no end
abbrev pub text_lines : List ℕ → List (List ℕ)
text_lines text = map without_return (lines_of text)

-- the first lines of a text, this many, are those of the file of some shapes
abbrev pub AreFirst : ℕ → List ℕ → Type 0
AreFirst count text = (shapes : Shapes) × (are_shapes shapes ≡ true) × (take count (text_lines text) ≡ take count (file_of shapes))

-- a text's first bad line, counted from 1: the lines before it are those of a file, and with it they are not. It may also be missing
abbrev pub IsBadLine : List ℕ → CharactersFault → Type 0
IsBadLine text (BadLine n) = AreFirst (n - 1) text × (AreFirst n text → ⊥)

-- what a text gives: the shapes whose file it is, or its first bad line
abbrev pub AnswersFile : List ℕ → Result Shapes CharactersFault → Type 0
AnswersFile text (Ok shapes) = (are_shapes shapes ≡ true) × (text_lines text ≡ file_of shapes)
AnswersFile text (Err fault) = IsBadLine text fault
