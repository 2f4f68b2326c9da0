-- Trusted: the intervals of readings that are outside their bounds, and the words that compare readings with the guide's
-- bounds.
use Rattle.std.specs.Prelude.{ℕ, ◌==◌, List, [], ◌∷◌, ◌++◌, Option, Some, None, codes, if◌then◌else◌}
use Rattle.pr_decode.specs.declared.reading.Transfer.{Transfer}
use Rattle.pr_decode.specs.declared.reading.Reading.{Reading}
use Rattle.pr_decode.specs.declared.reading.Reading.TheVariants.{Frame, IncompleteByte}
use Rattle.pr_report.specs.declared.detail.Bounds.{Bounds}
use Rattle.pr_report.specs.declared.detail.Bounds.TheVariants.{Guide}
use Rattle.pr_report.specs.declared.interval.Interval.{Interval}
use Rattle.pr_report.specs.declared.outside.Outside.{Outside}
use Rattle.pr_report.specs.Intervals.{intervals, is_outside, length_of, measure}
use Rattle.pr_report.specs.Numbers.{hex_digits, numbered}
use Rattle.pr_report.specs.ReadingText.{byte_word, incomplete_place}

-- the intervals of a reading that are outside these bounds
abbrev pub outside_at : Bounds → Reading → Interval → Option ℕ → List Outside
outside_at b r i None = []
outside_at b r i (Some n) =
    if is_outside b i n then record { reading = r; interval = i; length = n } ∷ [] else []

abbrev pub outside_in : Bounds → List Interval → Reading → List Outside
outside_in b [] r = []
outside_in b (i ∷ is) r = outside_at b r i (length_of i r) ++ outside_in b is r

-- those of readings, in order
abbrev pub all_outside : Bounds → List Reading → List Outside
all_outside b [] = []
all_outside b (r ∷ rs) = outside_in b intervals r ++ all_outside b rs

-- the first of some, if there is one
abbrev pub first_of : List Outside → Option Outside
first_of [] = None
first_of (o ∷ os) = Some o

-- which byte it is: its kind, its value in hexadecimal and its look; an incomplete byte has its look and its bits
abbrev pub byte_at : Transfer → List ℕ
byte_at t =
    byte_word t.opening.command ++ codes "$" ++ hex_digits t.byte ++ numbered (codes " at ") t.opening.ready_to_send
    ++ codes " us"

abbrev pub reading_place : Reading → List ℕ
reading_place (Frame t end) = byte_at t
reading_place (IncompleteByte t end) = incomplete_place t

-- how readings compare with the guide's bounds, by how many they are and the first interval outside; a reading has always
-- an interval
abbrev pub outside_words : Outside → List ℕ
outside_words o =
    codes "outside the guide's bounds: " ++ reading_place o.reading ++ codes ", " ++ measure Guide o.interval o.length

abbrev pub guide_words : (count : ℕ) → (first : Option Outside) → List ℕ
guide_words count None = if count == 0 then codes "no byte to measure\n" else codes "within the guide's bounds\n"
guide_words count (Some o) = outside_words o
