-- Linking words, for proofs: which readings were taken for what pages leave out. No reader needs to believe them.
use Rattle.std.specs.Prelude.{◌≡◌, ℕ, ◌+◌, ◌||◌, max, Bool, List, if◌then◌else◌}
use Rattle.std.specs.List.{list_any}
use Rattle.pr_decode.specs.declared.reading.Reading.{Reading}
use Rattle.pr_decode.specs.Frames.{acknowledged_frames}
use Rattle.pr_report.specs.Summary.{is_incomplete, is_unacknowledged}
use Rattle.pr_recording.specs.declared.left_out.LeftOut.{LeftOut}
use Rattle.pr_recording.specs.declared.left_out.LeftOutLog.{LeftOutLog}
use Rattle.pr_recording.specs.LeftOut.{is_call, is_cut_byte, left_out_of}

-- a count, with one more where something is so
abbrev pub counted : Bool → ℕ → ℕ
counted is_so count = count + (if is_so then 1 else 0)

-- what is left out with one reading more, which is an early data byte or not
abbrev pub left_with : LeftOut → Reading → (is_early : Bool) → LeftOut
left_with left r is_early = record {
  unacknowledged = counted (is_unacknowledged r) left.unacknowledged;
  incomplete = counted (is_incomplete r) left.incomplete;
  has_cut = left.has_cut || is_cut_byte r;
  early = counted is_early left.early;
}

-- these readings were taken
pub record HasLeftOut (readings : List Reading) (log : LeftOutLog) : Type 0 where
  pub left : log.left ≡ left_out_of readings
  pub called : log.is_called ≡ list_any is_call (acknowledged_frames readings)

-- the greatest of the counts
abbrev pub greatest_of : LeftOut → ℕ
greatest_of left = max left.unacknowledged (max left.incomplete left.early)

abbrev pub greatest_count : LeftOutLog → ℕ
greatest_count log = greatest_of log.left
