-- Trusted: the last of the four lines of a report on a recording, the verdict: what is damaged, and how the edges compare
-- with this project's timing, or else the readings with the guide's bounds. Edges count from 0.
use Rattle.std.specs.Prelude.{ℕ, ◌||◌, Bool, List, [], ◌++◌, length, Option, Some, None, codes, find}
use Rattle.pr_wire.specs.declared.WaveFault.{WaveFault}
use Rattle.pr_wire.specs.declared.WaveFault.TheVariants as fault
use Rattle.pr_decode.specs.declared.reading.Reading.{Reading}
use Rattle.pr_decode.specs.declared.reading.Reading.TheVariants.{Frame, IncompleteByte}
use Rattle.pr_report.specs.declared.detail.Bounds.{Bounds}
use Rattle.pr_report.specs.declared.detail.Bounds.TheVariants.{Guide, Profile}
use Rattle.pr_report.specs.declared.outside.Outside.{Outside}
use Rattle.pr_report.specs.Numbers.{numbered}
use Rattle.pr_report.specs.Outside.{all_outside, first_of, guide_words, reading_place}
use Rattle.pr_report.specs.Summary.{is_cut, is_incomplete}

-- a reading is damaged: an incomplete byte, or one that the recording's end cuts
abbrev pub is_damaged : Reading → Bool
is_damaged r = is_incomplete r || is_cut r

-- the first damaged reading, if there is one; a whole byte is damaged by being cut
abbrev pub damage_end : Reading → List ℕ
damage_end (Frame t end) = codes ", cut by the recording's end; "
damage_end (IncompleteByte t end) = codes "; "

abbrev pub damage_words : Option Reading → List ℕ
damage_words None = []
damage_words (Some r) = codes "damaged: " ++ reading_place r ++ damage_end r

-- where edges differ from this project's timing, in the words of `check`, and where they end too early
abbrev pub edge_words : (edge : ℕ) → (reason : List ℕ) → List ℕ
edge_words n reason = numbered (codes "differs from this project's timing at edge ") n ++ reason

abbrev pub truncated_words : (edge : ℕ) → List ℕ
truncated_words n = numbered (codes "this project's timing, truncated at edge ") n ++ codes "; "

abbrev pub difference_words : WaveFault → List ℕ
difference_words (fault.Start n) = edge_words n (codes ": bad start; ")
difference_words (fault.Order n) = edge_words n (codes ": bad order; ")
difference_words (fault.TooEarly n) = edge_words n (codes ": too early; ")
difference_words (fault.TooLate n) = edge_words n (codes ": too late; ")
difference_words (fault.Shape n) = edge_words n (codes ": bad shape; ")
difference_words (fault.Truncated n) = truncated_words n
difference_words fault.NoMemory = codes "out of memory; "

-- how a recording compares with the bounds that are asked for: with the profile by the first fault of its edges, and
-- where they have one with the guide too; with the guide alone by its readings
abbrev pub timing_words : Bounds → Option WaveFault → (count : ℕ) → (first : Option Outside) → List ℕ
timing_words Guide fault count first = guide_words count first
timing_words Profile None count first = codes "this project's timing\n"
timing_words Profile (Some fault) count first = difference_words fault ++ guide_words count first

-- the line, by the first damaged reading, by how many readings there are, and by the first interval outside the guide's
-- bounds
abbrev pub verdict_line :
    Bounds → Option WaveFault → (damaged : Option Reading) → (count : ℕ) → (first : Option Outside) → List ℕ
verdict_line b fault damaged count first =
    codes "verdict: " ++ damage_words damaged ++ timing_words b fault count first

-- the verdict on readings by these bounds, and by the first fault of the edges that say them
abbrev pub conclusion : Bounds → Option WaveFault → List Reading → List ℕ
conclusion b fault rs =
    verdict_line b fault (find is_damaged rs) (length rs) (first_of (all_outside Guide rs))
