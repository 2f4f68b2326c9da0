-- Trusted: the summary of readings: for each interval, if intervals are asked for, how many there are, the least, the
-- middle, the greatest, and how many are outside its bounds; and how many readings there are of each kind.
use Rattle.std.specs.Prelude.{ℕ, ◌*◌, nat_le, nat_lt, not, ◌&&◌, Bool, true, false, List, [], ◌∷◌, ◌++◌, length, Option, Some, None, codes, if◌then◌else◌}
use Rattle.std.specs.List.{count_by, filter}
use Rattle.std.specs.Option.{option_to_list}
use Rattle.pr_decode.specs.declared.reading.FrameEnd.TheVariants.{Unacknowledged}
use Rattle.pr_decode.specs.declared.reading.Reading.{Reading}
use Rattle.pr_decode.specs.declared.reading.Reading.TheVariants.{Frame, IncompleteByte}
use Rattle.pr_decode.specs.Readings.{greatest, is_settled, least}
use Rattle.pr_report.specs.declared.detail.Bounds.{Bounds}
use Rattle.pr_report.specs.declared.interval.Interval.{Interval}
use Rattle.pr_report.specs.Intervals.{bounds_after, intervals, is_outside, length_of, name_of, transfer_of}
use Rattle.pr_report.specs.Numbers.{numbered}

-- a reading is a whole byte; a command; a data byte; a whole byte that is not acknowledged; an incomplete
-- byte; a byte, whole or not, that the end of the recording cuts
abbrev pub is_frame : Reading → Bool
is_frame (Frame t end) = true
is_frame (IncompleteByte t end) = false

abbrev pub is_command : Reading → Bool
is_command r = is_frame r && (transfer_of r).opening.command

abbrev pub is_data_byte : Reading → Bool
is_data_byte r = is_frame r && not (transfer_of r).opening.command

abbrev pub is_unacknowledged : Reading → Bool
is_unacknowledged (Frame t (Unacknowledged k)) = true
is_unacknowledged r = false

abbrev pub is_incomplete : Reading → Bool
is_incomplete r = not (is_frame r)

abbrev pub is_cut : Reading → Bool
is_cut r = not (is_settled r)

-- the lengths of an interval in the readings that have it
abbrev pub lengths : Interval → List Reading → List ℕ
lengths i [] = []
lengths i (r ∷ rs) = option_to_list (length_of i r) ++ lengths i rs

-- how many of some lengths are at most n
abbrev pub at_most : ℕ → List ℕ → ℕ
at_most n ns = count_by (λ m. nat_le m n) ns

-- a number that at least half of some lengths do not exceed
abbrev pub is_half : List ℕ → ℕ → Bool
is_half ns n = nat_le (length ns) (2 * at_most n ns)

-- the least of some lengths, 0 of none
abbrev pub least_of : List ℕ → ℕ
least_of [] = 0
least_of (n ∷ ns) = least n ns

-- the middle: the least of the lengths that at least half of them do not exceed
unfoldable pub middle : List ℕ → ℕ
middle ns = least_of (filter (is_half ns) ns)

-- a middle below this is reported exactly, in microseconds
unfoldable pub exact_below : ℕ
exact_below = 16384

abbrev pub exact_middle : ℕ → Option ℕ
exact_middle n = if nat_lt n exact_below then Some n else None

abbrev pub middle_text : Option ℕ → List ℕ
middle_text (Some n) = numbered (codes ", middle ") n
middle_text None = codes ", middle over 16383"

-- how many lengths are outside these bounds
abbrev pub outside_count : Bounds → Interval → (outside : ℕ) → List ℕ
outside_count b i outside = bounds_after (codes ", outside ") b i ++ numbered (codes ": ") outside

-- the figures of lengths: how many there are, the least, the middle, the greatest, how many are outside
abbrev pub figures_text : Bounds → Interval → (count low : ℕ) → (mid : Option ℕ) → (high outside : ℕ) → List ℕ
figures_text b i count low mid high outside =
    numbered (codes ": ") count ++ numbered (codes ", least ") low ++ middle_text mid
    ++ numbered (codes ", greatest ") high ++ outside_count b i outside

abbrev pub lengths_text : Bounds → Interval → List ℕ → List ℕ
lengths_text b i [] = codes ": none"
lengths_text b i (n ∷ ns) =
    figures_text b i (length (n ∷ ns)) (least n ns) (exact_middle (middle (n ∷ ns))) (greatest n ns)
    (count_by (is_outside b i) (n ∷ ns))

-- the line of an interval
abbrev pub interval_line : Bounds → Interval → List Reading → List ℕ
interval_line b i rs = name_of i ++ lengths_text b i (lengths i rs) ++ codes "\n"

abbrev pub interval_lines : Bounds → List Interval → List Reading → List ℕ
interval_lines b [] rs = []
interval_lines b (i ∷ is) rs = interval_line b i rs ++ interval_lines b is rs

-- the lines of the intervals, if they are asked for
abbrev pub interval_lines_if : Bool → Bounds → List Reading → List ℕ
interval_lines_if true b rs = interval_lines b intervals rs
interval_lines_if false b rs = []

-- the lines of the counts: whole bytes, those that are not acknowledged, and incomplete ones
abbrev pub counts_text : (frames commands data_bytes unacknowledged incomplete : ℕ) → List ℕ
counts_text frames commands data_bytes unacknowledged incomplete =
    numbered (codes "frames: ") frames ++ numbered (codes ", commands: ") commands
    ++ numbered (codes ", data bytes: ") data_bytes
    ++ numbered (codes "\nnot acknowledged: ") unacknowledged ++ numbered (codes "\nglitches: ") incomplete
    ++ codes "\n"

-- the summary of readings
unfoldable pub summary : (has_intervals : Bool) → Bounds → List Reading → List ℕ
summary has_intervals b rs =
    interval_lines_if has_intervals b rs
    ++ counts_text (count_by is_frame rs) (count_by is_command rs) (count_by is_data_byte rs)
    (count_by is_unacknowledged rs) (count_by is_incomplete rs)
