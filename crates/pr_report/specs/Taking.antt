-- Linking words: which readings a survey has taken. The clauses of `Survey` say all that a caller needs of them. No reader needs to
-- believe them.
use Rattle.std.specs.Prelude.{◌≡◌, ℕ, ◌==◌, ◌<◌, ◌^◌, List, [], ◌∷◌, find, length, get_or, Option, None, Some}
use Rattle.std.specs.List.{count_by, list_any}
use Rattle.pr_decode.specs.declared.reading.Reading.{Reading}
use Rattle.pr_decode.specs.Readings.{greatest}
use Rattle.pr_report.specs.declared.detail.Bounds.{Bounds}
use Rattle.pr_report.specs.declared.detail.Bounds.TheVariants.{Guide}
use Rattle.pr_report.specs.declared.interval.Interval.{Interval}
use Rattle.pr_report.specs.declared.interval.Interval.TheVariants.{Ready, FirstPull, Answer, AnswerLength, PullAfterAnswer, ShortestLow, LongestLow, ShortestHigh, LongestHigh, Acknowledgement}
use Rattle.pr_wire.specs.declared.Edge.{Edge}
use Rattle.pr_report.specs.declared.brief_pulses.PulseCount.{PulseCount}
use Rattle.pr_report.specs.declared.brief_pulses.Turn.{Turn}
use Rattle.pr_report.specs.declared.counts.Counts.{Counts}
use Rattle.pr_report.specs.declared.oddities.LinesSeen.{LinesSeen}
use Rattle.pr_report.specs.declared.survey.Survey.{Survey}
use Rattle.pr_report.specs.declared.tally.Tally.{Tally}
use Rattle.pr_report.specs.BriefPulses.{brief_count}
use Rattle.pr_report.specs.Intervals.{highest_of, is_outside, lowest_of}
use Rattle.pr_report.specs.Outside.{all_outside, first_of}
use Rattle.pr_report.specs.Oddities.{first_levels, is_attention, last_levels}
use Rattle.pr_report.specs.Verdict.{is_damaged}
use Rattle.pr_report.specs.Summary.{is_command, is_data_byte, is_frame, is_incomplete, is_unacknowledged, least_of, lengths, exact_below}

-- the greatest of some lengths, 0 of none
abbrev pub greatest_of : List ℕ → ℕ
greatest_of [] = 0
greatest_of (n ∷ ns) = greatest n ns

-- how many of some lengths are n
abbrev pub equal_to : ℕ → List ℕ → ℕ
equal_to n ns = count_by (λ m. m == n) ns

-- a tally of lengths of an interval
pub record HasTallied (b : Bounds) (i : Interval) (ns : List ℕ) (t : Tally) : Type 0 where
  pub interval : t.interval ≡ i
  pub bounds : t.bounds ≡ b
  pub lowest : t.lowest ≡ lowest_of b i
  pub highest : t.highest ≡ highest_of b i
  pub count : t.count ≡ length ns
  pub least : t.least ≡ least_of ns
  pub greatest : t.greatest ≡ greatest_of ns
  pub outside : t.outside ≡ count_by (is_outside b i) ns
  pub room : length t.counters.items ≡ exact_below
  pub counters : (n : ℕ) → n < exact_below → get_or t.counters.items n 0 ≡ equal_to n ns

-- a tally of an interval in readings
abbrev pub Tallies : Bounds → Interval → List Reading → Tally → Type 0
Tallies b i rs t = HasTallied b i (lengths i rs) t

pub record HasCounted (rs : List Reading) (c : Counts) : Type 0 where
  pub frames : c.frames ≡ count_by is_frame rs
  pub commands : c.commands ≡ count_by is_command rs
  pub data_bytes : c.data_bytes ≡ count_by is_data_byte rs
  pub unacknowledged : c.unacknowledged ≡ count_by is_unacknowledged rs
  pub incomplete : c.incomplete ≡ count_by is_incomplete rs

-- how many readings a survey has taken
abbrev pub number_taken : Survey → ℕ
number_taken s = s.taken

-- these readings were taken, and compared with these bounds
pub record HasSurveyed (b : Bounds) (rs : List Reading) (s : Survey) : Type 0 where
  pub taken : s.taken ≡ length rs
  pub few : length rs < 2 ^ 64
  pub bounds : s.bounds ≡ b
  pub damaged : s.damaged ≡ find is_damaged rs
  pub outside : s.outside ≡ first_of (all_outside Guide rs)
  pub counts : HasCounted rs s.counts
  pub ready : Tallies b Ready rs s.ready
  pub first_pull : Tallies b FirstPull rs s.first_pull
  pub answer : Tallies b Answer rs s.answer
  pub answer_length : Tallies b AnswerLength rs s.answer_length
  pub pull_after_answer : Tallies b PullAfterAnswer rs s.pull_after_answer
  pub shortest_low : Tallies b ShortestLow rs s.shortest_low
  pub longest_low : Tallies b LongestLow rs s.longest_low
  pub shortest_high : Tallies b ShortestHigh rs s.shortest_high
  pub longest_high : Tallies b LongestHigh rs s.longest_high
  pub acknowledgement : Tallies b Acknowledgement rs s.acknowledgement

-- the last of edges after an edge, and of edges, with the levels before it
abbrev pub turn_after : Turn → List Edge → Turn
turn_after t [] = t
turn_after t (e ∷ es) = turn_after (record { before = t.edge.levels; edge = e }) es

abbrev pub last_turn : List Edge → Option Turn
last_turn [] = None
last_turn (e ∷ es) = Some (turn_after (record { before = e.levels; edge = e }) es)

-- the brief pulses of these edges were counted
pub record HasPulses (edges : List Edge) (p : PulseCount) : Type 0 where
  pub last : p.last ≡ last_turn edges
  pub count : p.count ≡ brief_count edges

-- these edges were looked at
pub record HasSeen (edges : List Edge) (s : LinesSeen) : Type 0 where
  pub attention : s.has_attention ≡ list_any is_attention edges
  pub first : s.first ≡ first_levels edges
  pub last : s.last ≡ last_levels edges
  pub pulses : HasPulses edges s.pulses
