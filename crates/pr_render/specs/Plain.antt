-- Trusted: the pages of an outcome as lines of 80 columns, for a terminal, mail and `diff`.
use Rattle.std.specs.Prelude.{ℕ, zero, suc, ◌+◌, ◌-◌, ◌/◌, ◌%◌, Bool, true, false, not, List, [], ◌∷◌, ◌++◌, ◌==◌, ◌&&◌, nat_lt, min, codes, decimal, encode_utf8, length, replicate, slice_index_or, slice_set, if◌then◌else◌, Option, Some, None}
use Rattle.pr_page.specs.declared.paper.Placed.{Placed}
use Rattle.pr_page.specs.declared.paper.Row.{Row}
use Rattle.pr_page.specs.declared.paper.Paper.{Paper}
use Rattle.pr_page.specs.declared.paper.Mark.{Mark}
use Rattle.pr_page.specs.declared.paper.Mark.TheVariants.{Cell, Dots}
use Rattle.pr_serial.specs.declared.Present.{Present}
use Rattle.pr_channels.specs.declared.faults.Stop.{Stop}
use Rattle.pr_system.specs.declared.outcome.Outcome.{Outcome}
use Rattle.pr_render.specs.Characters.{character}
use Rattle.pr_render.specs.Words.{is_blank, numbers_text, stop_name, text_if}
use Rattle.pr_render.specs.declared.format.Look.{Look}
use Rattle.pr_render.specs.declared.format.Look.TheVariants.{Blocks, Video}

-- a sign of a line: a character (its Unicode code point), in the terminal's reverse video or not
pub record Sign : Type 0 where
  pub code_point : ℕ
  pub video : Bool

-- a character that is not in reverse video
abbrev pub sign_of : ℕ → Sign
sign_of u = record { code_point = u; video = false }

-- what a column shows: a sign, and the number of dots over it
pub record Column : Type 0 where
  pub sign : Sign
  pub dots : ℕ

-- a sign alone in a column
abbrev pub showing : Sign → Column
showing s = record { sign = s; dots = 0 }

-- a column of which nothing was printed
abbrev pub empty_column : Column
empty_column = showing (sign_of 32)

-- puts what a column shows in its place; beyond the last column nothing changes
abbrev pub put : ℕ → Column → List Column → List Column
put place column columns = if nat_lt place (length columns) then slice_set columns place column else columns

-- a cell's sign: its character, in reverse video if it is reversed; without that video a reversed blank is a full block
abbrev pub shown : Look → (reverse : Bool) → ℕ → Sign
shown Blocks reverse u = sign_of (if (reverse && is_blank u) then 9608 else u)
shown Video reverse u = record { code_point = u; video = reverse }

-- the sign beside that of a wide cell: a blank, in reverse video if the cell is reversed; without that video it is a full block beside
-- a reversed blank, and no block parts the letters of a word
abbrev pub beside : Look → (reverse : Bool) → ℕ → Sign
beside Blocks reverse u = shown Blocks (reverse && is_blank u) 32
beside Video reverse u = shown Video reverse 32

-- a cell over the columns: a blank that is not reversed changes nothing, and a wide cell has two columns
abbrev pub paint_cell : Look → ℕ → ℕ → Bool → Bool → List Column → List Column
paint_cell look place u reverse wide columns =
    if (not reverse && is_blank u) then columns
    else put place (showing (shown look reverse u))
    (if wide then put (place + 1) (showing (beside look reverse u)) columns else columns)

-- the number of dots of a column of dots
abbrev pub ink_of : ℕ → ℕ
ink_of value = value % 2 + value / 2 % 2 + value / 4 % 2 + value / 8 % 2 + value / 16 % 2 + value / 32 % 2
    + value / 64 % 2

-- more dots in a column; 42 fill it
abbrev pub darker : ℕ → Column → Column
darker ink column = record { sign = column.sign; dots = min (column.dots + ink) 42 }

-- a mark over the columns of its line: six dot columns are one column
abbrev pub paint_mark : Look → ℕ → Mark → List Column → List Column
paint_mark look place (Cell code lower reverse wide) columns = paint_cell look place (character lower code) reverse wide columns
paint_mark look place (Dots value) columns =
    put place (darker (ink_of value) (slice_index_or columns place empty_column)) columns

-- marks over the columns, in order
abbrev pub painted : Look → List Column → List Placed → List Column
painted look columns [] = columns
painted look columns (p ∷ ps) = painted look (paint_mark look (p.x / 6) p.mark columns) ps

-- the shade of a number of dots, of 42, darker with every eleven
abbrev pub shade_of : ℕ → ℕ
shade_of dots =
    if nat_lt dots 12 then 9617
    else (if nat_lt dots 23 then 9618
    else (if nat_lt dots 34 then 9619
    else 9608))

-- the sign of a column
abbrev pub seen_in : Column → Sign
seen_in column = if column.dots == 0 then column.sign else sign_of (shade_of column.dots)

-- a sign of which nothing is seen
abbrev pub is_bare : Sign → Bool
is_bare s = not s.video && s.code_point == 32

-- the signs of columns after a number of blanks, without the blanks at the end
abbrev pub trimmed : ℕ → List Column → List Sign
trimmed blanks [] = []
trimmed blanks (c ∷ cs) =
    if is_bare (seen_in c) then trimmed (blanks + 1) cs
    else replicate blanks (sign_of 32) ++ seen_in c ∷ trimmed 0 cs

-- what begins the terminal's reverse video or ends it (SGR 7 and SGR 27 of ECMA-48); nothing where it stays as it is, or is not used
unfoldable pub turned : Look → (on wanted : Bool) → List ℕ
turned Blocks on wanted = []
turned Video true true = []
turned Video true false = 27 ∷ codes "[27m"
turned Video false true = 27 ∷ codes "[7m"
turned Video false false = []

-- signs in UTF-8, where reverse video is on or off before them; it is off at the end
abbrev pub written : Look → (on : Bool) → List Sign → List ℕ
written look on [] = turned look on false
written look on (s ∷ ss) = turned look on s.video ++ encode_utf8 s.code_point ++ written look s.video ss

-- a line of marks
unfoldable pub line_text : Look → List Placed → List ℕ
line_text look marks = written look false (trimmed 0 (painted look (replicate 80 empty_column) marks)) ++ codes "\n"

-- n lines without marks
abbrev pub empty_lines : ℕ → List ℕ
empty_lines zero = []
empty_lines (suc n) = empty_lines n ++ codes "\n"

-- the lines of rows, on paper that is empty from a distance on: each line of text that fits above a
-- row is an empty line
abbrev pub rows_text : Look → ℕ → List Row → List ℕ
rows_text look empty [] = []
rows_text look empty (r ∷ rs) = empty_lines ((r.y - empty) / 21) ++ line_text look r.marks ++ rows_text look (r.y + 21) rs

-- the line above the held marks
unfoldable pub held_heading : List ℕ
held_heading = codes "Held, not yet printed:\n"

-- the line of the held marks, below its heading, if there are any
abbrev pub held_text : Look → List Placed → List ℕ
held_text look [] = []
held_text look (m ∷ ms) = held_heading ++ line_text look (m ∷ ms)

-- a printer's sheet
unfoldable pub sheet_text : Look → ℕ → Paper → List ℕ
sheet_text look device p = codes "Printer " ++ decimal device ++ codes "\n" ++ rows_text look 0 p.rows ++ held_text look p.held

-- a sentence of numbers, if there are any
unfoldable pub sentence : List ℕ → List ℕ → List ℕ
sentence name [] = []
sentence name (n ∷ ns) = name ++ numbers_text (codes "\n") 1 (n ∷ ns) ++ codes ".\n"

-- the sentence of a stop
unfoldable pub stop_sentence : Option (ℕ × Stop) → List ℕ
stop_sentence None = []
stop_sentence (Some stop) = stop_name stop.1 ++ codes " in statement " ++ decimal stop.0 ++ codes ".\n"

-- the pages of the printers that are present, and then the sentences
unfoldable pub text_of : Look → Outcome → Present → List ℕ
text_of look outcome present =
    text_if present.four (sheet_text look 4 outcome.paper4) ++ text_if present.five (sheet_text look 5 outcome.paper5)
    ++ sentence (codes "Statuses:") outcome.statuses ++ sentence (codes "Screen:") outcome.screen
    ++ stop_sentence outcome.stop
