-- Trusted: what the lengths of intervals come to, as numbers.
use Rattle.std.specs.Prelude.{ℕ, List, [], ◌∷◌, ◌++◌, length}
use Rattle.std.specs.List.{count_by}
use Rattle.pr_decode.specs.declared.reading.Reading.{Reading}
use Rattle.pr_decode.specs.Readings.{greatest}
use Rattle.pr_report.specs.declared.detail.Bounds.TheVariants.{Profile}
use Rattle.pr_report.specs.declared.interval.Interval.{Interval}
use Rattle.pr_report.specs.Intervals.{is_outside, lowest_of, profile_greatest}
use Rattle.pr_report.specs.Summary.{least_of, lengths, middle}

-- of the lengths of an interval how many there are, the least, the middle and the greatest (0 of none); its bounds by
-- the profile, and how many lengths lie outside
abbrev pub figures : Interval → List ℕ → List ℕ
figures i ns =
    length ns ∷ least_of ns ∷ middle ns ∷ greatest 0 ns ∷ lowest_of Profile i ∷ profile_greatest i
    ∷ count_by (is_outside Profile i) ns ∷ []

-- those of each interval, over all readings
abbrev pub interval_numbers : List Interval → List Reading → List ℕ
interval_numbers [] rs = []
interval_numbers (i ∷ is) rs = figures i (lengths i rs) ++ interval_numbers is rs
