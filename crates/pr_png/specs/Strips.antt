-- Trusted: the strips of continuous paper, half an inch wide each: what of them is dark. A line is 1/126 inch high, and is counted from the
-- upper edge of the paper; a dot column is 1/60 inch wide, and is counted from the outer edge of the strip.
use Rattle.std.specs.Prelude.{ℕ, ◌/◌, ◌%◌, ◌^◌, Bool, List, [], ◌∷◌, ◌==◌, nat_lt, slice_index, if◌then◌else◌}

-- half an inch of a strip, in parts of 2/126 inch: a ring around the hole in its middle, and dots where the strip tears off, which is
-- dot column 30. Bit c of each number is dot column c
abbrev pub strip_parts : List ℕ
strip_parts =
    0x40000000 ∷ 0 ∷ 0 ∷ 0 ∷ 0x40000000 ∷ 0 ∷ 0 ∷ 0 ∷ 0x40000000 ∷ 0 ∷ 0
    ∷ 0x1E000 ∷ 0x40061800 ∷ 0x40800 ∷ 0x80400 ∷ 0x80400 ∷ 0x40080400 ∷ 0x80400 ∷ 0x40800 ∷ 0x61800 ∷ 0x4001E000
    ∷ 0 ∷ 0 ∷ 0 ∷ 0x40000000 ∷ 0 ∷ 0 ∷ 0 ∷ 0x40000000 ∷ 0 ∷ 0 ∷ 0 ∷ []

-- the fold between two sheets: every third dot column of the strip
abbrev pub fold_part : ℕ
fold_part = 0x49249249

-- the dark dot columns of a line: a sheet, 1386 lines, begins with a fold
abbrev pub strip_part : ℕ → ℕ
strip_part line =
    if nat_lt (line % 1386) 2 then fold_part else slice_index strip_parts (line % 63 / 2)

-- whether a dot column is dark, where these are
abbrev pub has_column : (part column : ℕ) → Bool
has_column part column = part / 2 ^ column % 2 == 1
