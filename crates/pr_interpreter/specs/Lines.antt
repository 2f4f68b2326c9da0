-- Trusted: the numbered lines of a program's text.
-- A text is typed row by row. A row ends at a line feed (10), at a carriage return (13) or at the text's end.
use Rattle.std.specs.Prelude.{ℕ, ◌+◌, ◌-◌, ◌*◌, ◌≡◌, ◌==◌, ◌⊎◌, ◌||◌, ◌&&◌, Bool, not, List, [], ◌∷◌, length, take}
use Rattle.std.specs.Prelude.{drop, nat_lt, if◌then◌else◌, filter, slice_range, Option, Some, None, Result, Ok, Err}
use Rattle.std.specs.List.{insert, position_or_len, suffix_len}
use Rattle.pr_interpreter.specs.declared.lines.Line.{Line}
use Rattle.pr_interpreter.specs.declared.fault.ProgramFault.{ProgramFault}
use Rattle.pr_interpreter.specs.declared.fault.ProgramFault.TheVariants.{LargeLineNumber, NoLineNumber, OutOfMemory}

-- the byte ends a row
abbrev pub ends_row : ℕ → Bool
ends_row b = b == 10 || b == 13

-- the byte is in a row
abbrev pub is_in_row : ℕ → Bool
is_in_row b = not (ends_row b)

-- the column of a place of a text: how many bytes before it are in its row, counted from 1
unfoldable pub column : List ℕ → ℕ → ℕ
column text place = suffix_len is_in_row (take place text) + 1

-- a row: the places of its first byte and of the byte after its last
pub record Row : Type 0 where
  pub start : ℕ
  pub end : ℕ

-- the rows of a text's rest from a place on, where the first of them began at a start
abbrev pub rows_from : ℕ → ℕ → List ℕ → List Row
rows_from start place [] = record { start = start; end = place } ∷ []
rows_from start place (b ∷ bs) =
    if ends_row b then record { start = start; end = place } ∷ rows_from (place + 1) (place + 1) bs
    else rows_from start (place + 1) bs

-- a byte that is no blank
abbrev pub is_mark : ℕ → Bool
is_mark b = not (b == 32)

-- a byte that is neither a blank nor a digit
abbrev pub is_text : ℕ → Bool
is_text b = not (b == 32) && (nat_lt b 48 || nat_lt 57 b)

-- how many blanks a row begins with
abbrev pub blanks : List ℕ → ℕ
blanks row = position_or_len is_mark row

-- how many blanks and digits a row begins with
abbrev pub front : List ℕ → ℕ
front row = position_or_len is_text row

-- a number with one more digit; a blank changes nothing
abbrev pub next_number : ℕ → ℕ → ℕ
next_number n b = if b == 32 then n else n * 10 + (b - 48)

-- the number that digits make after those of a number
abbrev pub line_number : ℕ → List ℕ → ℕ
line_number n [] = n
line_number n (b ∷ bs) = line_number (next_number n b) bs

-- the line that a row is: none if it is blank
unfoldable pub line_in : ℕ → List ℕ → Result (Option Line) ProgramFault
line_in start row =
    if blanks row == length row then Ok None
    else if front row == blanks row then Err (NoLineNumber (start + blanks row))
    else if nat_lt 63999 (line_number 0 (take (front row) row)) then Err (LargeLineNumber (start + blanks row))
    else Ok (Some (record {
      number = line_number 0 (take (front row) row);
      start = start + front row;
      end = start + length row;
    }))

-- the lines of other numbers
abbrev pub others : ℕ → List Line → List Line
others number lines = filter (λ x. not (x.number == number)) lines

-- where a line of a number goes: before the first that has a greater one
abbrev pub place_for : ℕ → List Line → ℕ
place_for number lines = position_or_len (λ x. nat_lt number x.number) lines

-- a line that has nothing but its number
abbrev pub is_empty : Line → Bool
is_empty l = l.start == l.end

-- the program after a line is typed: it takes the place of the line of its number, or deletes it if it has nothing
unfoldable pub enter : Line → List Line → List Line
enter l lines =
    if is_empty l then others l.number lines
    else insert (others l.number lines) (place_for l.number (others l.number lines)) l

-- the program after what a row gives
abbrev pub entered : Result (Option Line) ProgramFault → List Line → Result (List Line) ProgramFault
entered (Ok None) lines = Ok lines
entered (Ok (Some l)) lines = Ok (enter l lines)
entered (Err fault) lines = Err fault

-- the program after a row of a text is typed
unfoldable pub after_row : List ℕ → ℕ → ℕ → List Line → Result (List Line) ProgramFault
after_row text start end lines = entered (line_in start (slice_range text start end)) lines

-- what comes after a program, if there is one
abbrev pub go_on : Result (List Line) ProgramFault → (List Line → Result (List Line) ProgramFault)
    → Result (List Line) ProgramFault
go_on (Ok lines) more = more lines
go_on (Err fault) more = Err fault

-- the program after all rows are typed; the first fault counts
abbrev pub after_rows : List ℕ → List Row → List Line → Result (List Line) ProgramFault
after_rows text [] lines = Ok lines
after_rows text (row ∷ rows) lines = go_on (after_row text row.start row.end lines) (λ more. after_rows text rows more)

-- the program after the rest of a text from a place on, in a row that began at a start
unfoldable pub after_rest : List ℕ → ℕ → ℕ → List Line → Result (List Line) ProgramFault
after_rest text start place lines = after_rows text (rows_from start place (drop place text)) lines

-- the lines of a text, sorted by their numbers
unfoldable pub program_lines : List ℕ → Result (List Line) ProgramFault
program_lines text = after_rest text 0 0 []

-- memory ran out, or the fault is that of a definition
abbrev pub FaultsAs : ProgramFault → Result (List Line) ProgramFault → Type 0
FaultsAs fault wanted = (fault ≡ OutOfMemory) ⊎ (wanted ≡ Err fault)

-- a program and a start lead on from the next byte as others do from a place
abbrev pub LeadsOn : List ℕ → ℕ → ℕ → List Line → ℕ → List Line → Type 0
LeadsOn text start place old next new = after_rest text start place old ≡ after_rest text next (place + 1) new
