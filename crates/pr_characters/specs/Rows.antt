-- Linking words, for proofs: the lines of a file as numbers, and the columns that these make. Lines, pictures, rows and columns are counted from 0.
use Rattle.std.specs.Prelude.{◌≡◌, ℕ, ◌+◌, ◌*◌, ◌/◌, ◌%◌, ◌^◌, Bool, List, [], ◌∷◌, ◌==◌, ◌&&◌, ◌||◌, nat_lt, length, map, slice_index, if◌then◌else◌, Option, Some, None}
use Rattle.std.specs.List.{list_all, range_with_len}
use Rattle.std.specs.Str.{bytes_eq}
use Rattle.pr_dots.specs.declared.character_sets.Shapes.{Shapes}
use Rattle.pr_characters.specs.declared.fault.CharactersFault.{CharactersFault}
use Rattle.pr_characters.specs.declared.fault.CharactersFault.TheVariants.{BadLine}
use Rattle.pr_characters.specs.File.{name_line, text_lines}

-- six signs
abbrev pub is_sign : ℕ → Bool
is_sign b = b == 35 || b == 46

abbrev pub are_signs : List ℕ → Bool
are_signs line = length line == 6 && list_all is_sign line

-- a line may have this number
abbrev pub may_have : ℕ → List ℕ → Bool
may_have number line = if number % 8 == 0 then bytes_eq line (name_line (number / 8)) else are_signs line

-- the number of the first line that may not have it, or that is missing, where these lines are those from a number on
abbrev pub first_bad : ℕ → List (List ℕ) → Option ℕ
first_bad number [] = if number == 2048 then None else Some number
first_bad number (line ∷ lines) =
    if nat_lt number 2048 && may_have number line then first_bad (number + 1) lines else Some number

-- a line of signs as a number: bit 0 is the first sign
abbrev pub dot_in : List ℕ → ℕ → ℕ
dot_in line x = if slice_index line x == 35 then 1 else 0

abbrev pub bits_of : List ℕ → ℕ
bits_of line =
    dot_in line 0 + 2 * dot_in line 1 + 4 * dot_in line 2 + 8 * dot_in line 3 + 16 * dot_in line 4 + 32 * dot_in line 5

-- the numbers of lines from a number on; a line that names a picture has none
abbrev pub row_of : ℕ → List ℕ → ℕ
row_of number line = if number % 8 == 0 then 0 else bits_of line

abbrev pub rows_from : ℕ → List (List ℕ) → List ℕ
rows_from number [] = []
rows_from number (line ∷ lines) = row_of number line ∷ rows_from (number + 1) lines

-- a dot of a picture, 1 or 0
abbrev pub dot_at : List ℕ → (picture x y : ℕ) → ℕ
dot_at rows picture x y = slice_index rows (8 * picture + 1 + y) / 2 ^ x % 2

-- a column of a picture: bit 0 is its top dot
abbrev pub column_at : List ℕ → (picture x : ℕ) → ℕ
column_at rows picture x =
    dot_at rows picture x 0 + 2 * dot_at rows picture x 1 + 4 * dot_at rows picture x 2 + 8 * dot_at rows picture x 3
    + 16 * dot_at rows picture x 4 + 32 * dot_at rows picture x 5 + 64 * dot_at rows picture x 6

-- the columns of a picture
unfoldable pub columns_at : List ℕ → ℕ → List ℕ
columns_at rows picture =
    column_at rows picture 0 ∷ column_at rows picture 1 ∷ column_at rows picture 2 ∷ column_at rows picture 3
    ∷ column_at rows picture 4 ∷ column_at rows picture 5 ∷ []

-- the 128 pictures of a set, of which this one is the first
unfoldable pub pictures_at : List ℕ → ℕ → List (List ℕ)
pictures_at rows first = map (columns_at rows) (range_with_len first 128)

-- the shapes of these numbers
abbrev pub shapes_of : List ℕ → Shapes
shapes_of rows = record { upper = pictures_at rows 0; lower = pictures_at rows 128 }

-- a text's first bad line, counted from 1
abbrev pub IsFirstBad : List ℕ → CharactersFault → Type 0
IsFirstBad text (BadLine n) = (line : ℕ) × (n ≡ line + 1) × (first_bad 0 (text_lines text) ≡ Some line)
