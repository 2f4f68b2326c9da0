-- Trusted: the intervals of a reading, in microseconds, each with its name and its bounds: those of a delay of the
-- profile, and those of the Programmer's Reference Guide's table of serial bus timing.
use Rattle.std.specs.Prelude.{ℕ, ◌+◌, ◌-◌, ◌==◌, nat_lt, Bool, false, ◌||◌, List, [], ◌∷◌, ◌++◌, Option, Some, None, is_some, codes, if◌then◌else◌}
use Rattle.std.specs.Option.{option_map}
use Rattle.pr_wire.specs.declared.delay.Kind.{Kind}
use Rattle.pr_wire.specs.declared.delay.Kind.TheVariants.{H, Ne, Ye, Ei, Ry, S, V, F}
use Rattle.pr_wire.specs.Delays.{bounds_of}
use Rattle.pr_decode.specs.declared.reading.Pulse.{Pulse}
use Rattle.pr_decode.specs.declared.reading.Transfer.{Transfer}
use Rattle.pr_decode.specs.declared.reading.FrameEnd.TheVariants.{Acknowledged}
use Rattle.pr_decode.specs.declared.reading.Reading.{Reading}
use Rattle.pr_decode.specs.declared.reading.Reading.TheVariants.{Frame, IncompleteByte}
use Rattle.pr_report.specs.declared.detail.Bounds.{Bounds}
use Rattle.pr_report.specs.declared.detail.Bounds.TheVariants.{Guide, Profile}
use Rattle.pr_report.specs.declared.interval.Interval.{Interval}
use Rattle.pr_report.specs.declared.interval.Interval.TheVariants.{Ready, FirstPull, Answer, AnswerLength, PullAfterAnswer, ShortestLow, LongestLow, ShortestHigh, LongestHigh, Acknowledgement}
use Rattle.pr_report.specs.Numbers.{numbered}

-- all intervals, in the order of their lines
abbrev pub intervals : List Interval
intervals =
    Ready ∷ FirstPull ∷ Answer ∷ AnswerLength ∷ PullAfterAnswer
    ∷ ShortestLow ∷ LongestLow ∷ ShortestHigh ∷ LongestHigh ∷ Acknowledgement ∷ []

-- an interval's name, the delay of the profile that bounds it, and its least and greatest length by the guide (there
-- Th, Tne, Tye, Tei, Try, Ts, Tv and Tf; a least that its table leaves out is 1)
abbrev pub row_of : Interval → List ℕ × Kind × ℕ × Option ℕ
row_of Ready = (codes "ready", H, 0, None)
row_of FirstPull = (codes "first pull", Ne, 1, Some 200)
row_of Answer = (codes "answer", Ye, 200, None)
row_of AnswerLength = (codes "answer length", Ei, 60, None)
row_of PullAfterAnswer = (codes "pull after answer", Ry, 0, Some 60)
row_of ShortestLow = (codes "shortest low half", S, 20, None)
row_of LongestLow = (codes "longest low half", S, 20, None)
row_of ShortestHigh = (codes "shortest high half", V, 20, None)
row_of LongestHigh = (codes "longest high half", V, 20, None)
row_of Acknowledgement = (codes "acknowledgement", F, 0, Some 1000)

abbrev pub name_of : Interval → List ℕ
name_of i = (row_of i).0

abbrev pub kind_of : Interval → Kind
kind_of i = (row_of i).1

-- the longest time for which DATA is pulled in answer to end-or-identify: a reading does not say
-- how many listeners answer, and two pulls join into one, of which the first begins as early and
-- the second ends as late as the profile allows
abbrev pub longest_answer : ℕ
longest_answer = (bounds_of Ye).2 + (bounds_of Ei).2 - (bounds_of Ye).0

-- an interval's greatest length in the profile
abbrev pub profile_greatest : Interval → ℕ
profile_greatest AnswerLength = longest_answer
profile_greatest i = (bounds_of (kind_of i)).2

-- an interval's least length, and its greatest if it has one
abbrev pub lowest_of : Bounds → Interval → ℕ
lowest_of Profile i = (bounds_of (kind_of i)).0
lowest_of Guide i = (row_of i).2

abbrev pub highest_of : Bounds → Interval → Option ℕ
highest_of Profile i = Some (profile_greatest i)
highest_of Guide i = (row_of i).3

-- a length is outside these bounds
abbrev pub is_above : ℕ → (greatest : Option ℕ) → Bool
is_above n None = false
is_above n (Some greatest) = nat_lt greatest n

abbrev pub is_beyond : ℕ → (lowest : ℕ) → (highest : Option ℕ) → Bool
is_beyond n lowest highest = nat_lt n lowest || is_above n highest

abbrev pub is_outside : Bounds → Interval → ℕ → Bool
is_outside b i n = is_beyond n (lowest_of b i) (highest_of b i)

-- a word, and then these bounds
abbrev pub upper_text : (greatest : Option ℕ) → List ℕ
upper_text None = codes " or more"
upper_text (Some greatest) = numbered (codes " to ") greatest

abbrev pub bounds_after : List ℕ → Bounds → Interval → List ℕ
bounds_after word b i = numbered word (lowest_of b i) ++ upper_text (highest_of b i)

-- whose bounds they are
abbrev pub owner_words : Bounds → List ℕ
owner_words Profile = codes " us, the profile has "
owner_words Guide = codes " us, the guide has "

-- the end of a line: an interval, its length, and these bounds
abbrev pub measure : Bounds → Interval → ℕ → List ℕ
measure b i n = name_of i ++ numbered (codes " ") n ++ bounds_after (owner_words b) b i ++ codes "\n"

-- the byte of a reading, as far as it came
abbrev pub transfer_of : Reading → Transfer
transfer_of (Frame t end) = t
transfer_of (IncompleteByte t end) = t

-- the time from CLOCK's last pull to the acknowledgement, if there is one
abbrev pub acknowledgement_in : Reading → Option ℕ
acknowledgement_in (Frame t (Acknowledged k)) = Some (k - t.last_pull)
acknowledgement_in r = None

-- a length, only without end-or-identify
abbrev pub unless_answered : Option Pulse → ℕ → Option ℕ
unless_answered answer n = if is_some answer then None else Some n

-- a length, only if a bit has come
abbrev pub if_bits : (bits : ℕ) → ℕ → Option ℕ
if_bits bits n = if bits == 0 then None else Some n

-- the length of an interval of a byte, if the byte has it
abbrev pub length_in : Interval → Transfer → (acknowledgement : Option ℕ) → Option ℕ
length_in Ready t a = Some (t.opening.ready_for_data - t.opening.ready_to_send)
length_in FirstPull t a = unless_answered t.opening.pulse (t.pull - t.opening.ready_for_data)
length_in Answer t a = option_map (λ p. p.pulled - t.opening.ready_for_data) t.opening.pulse
length_in AnswerLength t a = option_map (λ p. p.released - p.pulled) t.opening.pulse
length_in PullAfterAnswer t a = option_map (λ p. t.pull - p.released) t.opening.pulse
length_in ShortestLow t a = if_bits t.bits t.low.shortest
length_in LongestLow t a = if_bits t.bits t.low.longest
length_in ShortestHigh t a = if_bits t.bits t.high.shortest
length_in LongestHigh t a = if_bits t.bits t.high.longest
length_in Acknowledgement t a = a

-- the length of an interval in a reading, if the reading has it
abbrev pub length_of : Interval → Reading → Option ℕ
length_of i r = length_in i (transfer_of r) (acknowledgement_in r)
