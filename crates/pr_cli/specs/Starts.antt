-- Trusted: when a recording's own moment 0 is, in microseconds, as its samples' times are. A `--from-time` with a minus counts back
-- from it.
-- A table's times may begin before 0, as -0.5 s does half a second before a trigger; its samples count from the first row then. So
-- its moment 0 is the time of a row that follows the first one and differs from it only in its time, which is 0. A second such row
-- has the same time; in a table without times it is a sample later, and moment 0 is the first sample. By hand:
--   Time [s],ATN,CLK,DATA      no sample comes before the first row
--   -0.5,1,1,1                 the first row, at 0 us
--   0,1,1,1 and 0,1,1,1        twice the same row at moment 0: both at 500,000 us, which is the answer; so of -0,5;1;1;1 under Time [s];ATN;CLK;DATA
-- After -2.0005,1,1,1 in ms it is 2001 us, since times before 0 are rounded to the earlier microsecond. After 0.5,1,1,1 samples
-- count from moment 0, and a row at 0 goes back and is refused: 0. At 1000 rows a second the three are at 0, 1000 and 2000 us: 0.
-- Where the last column has the times, the three have the same: 0, which is the first moment.
use Rattle.std.specs.Prelude.{ℕ, ◌==◌, ◌||◌, ◌&&◌, not, drop, nat_lt, Bool, true, false, List, [], ◌∷◌, ◌++◌, if◌then◌else◌}
use Rattle.std.specs.List.{prefix_len}
use Rattle.pr_wire.specs.declared.Edge.{Edge}
use Rattle.pr_base.specs.Digits.{is_digit}
use Rattle.pr_base.specs.Lines.{lines_of}
use Rattle.pr_capture.specs.declared.format.InputFormat.{InputFormat}
use Rattle.pr_capture.specs.declared.format.InputFormat.TheVariants as source
use Rattle.pr_capture.specs.declared.format.TraceInput.{TraceInput}
use Rattle.pr_capture.specs.Csv.{csv_contents, is_separator}

-- the samples of a table, up to its first fault
unfoldable pub samples_in : TraceInput → (table : List ℕ) → List Edge
samples_in input table = (csv_contents input.signals input.rate table).samples

-- it has a sample
abbrev pub has_row : List Edge → Bool
has_row [] = false
has_row (sample ∷ samples) = true

-- a text and a line after it
abbrev pub with_line : (text line : List ℕ) → List ℕ
with_line text line = text ++ (line ++ 10 ∷ [])

-- a text begins with a semicolon or a tab
abbrev pub ends_field : List ℕ → Bool
ends_field [] = false
ends_field (b ∷ bs) = b == 59 || b == 9

-- a text begins with a comma that stands in a number, as in 0,5;1;1;1: digits follow it, up to a semicolon or a tab
abbrev pub has_fraction : List ℕ → Bool
has_fraction [] = false
has_fraction (b ∷ bs) = b == 44 && ends_field (drop (prefix_len is_digit bs) bs)

-- a row from its first comma, semicolon or tab on, but for a comma in a number
abbrev pub after_time : (row : List ℕ) → List ℕ
after_time [] = []
after_time (b ∷ bs) = if is_separator b && not (has_fraction (b ∷ bs)) then b ∷ bs else after_time bs

-- the same row with 0 for its time
abbrev pub at_zero : (row : List ℕ) → List ℕ
at_zero row = 48 ∷ after_time row

-- the first row and two such rows follow lines without samples
abbrev pub with_zeros : (front row : List ℕ) → List ℕ
with_zeros front row = with_line (with_line (with_line front row) (at_zero row)) (at_zero row)

-- a row's time has a colon, as an instant has: 2024-06-21T14:28:30.5
abbrev pub is_instant : (row : List ℕ) → Bool
is_instant [] = false
is_instant (b ∷ bs) = if is_separator b then false else b == 58 || is_instant bs

-- the time of the second and the third of three samples, if they have the same and the first an earlier one; else 0
abbrev pub same_time : List Edge → ℕ
same_time (first ∷ second ∷ third ∷ []) = if second.time == third.time && nat_lt first.time second.time then second.time else 0
same_time _ = 0

-- moment 0 by the first row and these samples; instants have none but the first
abbrev pub zero_by : (row : List ℕ) → List Edge → ℕ
zero_by row samples = if is_instant row then 0 else same_time samples

-- moment 0 of a table of which these lines are left, after a front without samples: the first row is the first line after which there is one
abbrev pub zero_after : TraceInput → (front : List ℕ) → (lines : List (List ℕ)) → ℕ
zero_after input front [] = 0
zero_after input front (line ∷ lines) =
    if has_row (samples_in input (with_line front line)) then zero_by line (samples_in input (with_zeros front line))
    else zero_after input (with_line front line) lines

unfoldable pub table_zero : TraceInput → (table : List ℕ) → ℕ
table_zero input table = zero_after input [] (lines_of table)

-- a recording is a table
abbrev pub is_csv : InputFormat → Bool
is_csv source.Csv = true
is_csv _ = false

-- moment 0 of a recording; of any but a table it is the first moment
abbrev pub own_zero : TraceInput → (recording : List ℕ) → ℕ
own_zero input recording = if is_csv input.source then table_zero input recording else 0
