-- Trusted: readings as lines of JSON, an object for each, and the verdict on their edges as one. Names and words are fixed
-- and need no escapes; all else is numbers.
use Rattle.std.specs.Prelude.{ℕ, ◌-◌, Bool, true, false, List, [], ◌∷◌, ◌++◌, Option, Some, None, codes}
use Rattle.pr_wire.specs.declared.WaveFault.{WaveFault}
use Rattle.pr_wire.specs.declared.WaveFault.TheVariants as fault
use Rattle.pr_decode.specs.declared.reading.Pulse.{Pulse}
use Rattle.pr_decode.specs.declared.reading.Transfer.{Transfer}
use Rattle.pr_decode.specs.declared.reading.FrameEnd.{FrameEnd}
use Rattle.pr_decode.specs.declared.reading.FrameEnd.TheVariants as frame
use Rattle.pr_decode.specs.declared.reading.IncompleteEnd.{IncompleteEnd}
use Rattle.pr_decode.specs.declared.reading.IncompleteEnd.TheVariants as glitch
use Rattle.pr_decode.specs.declared.reading.Reading.{Reading}
use Rattle.pr_decode.specs.declared.reading.Reading.TheVariants.{Frame, IncompleteByte}
use Rattle.pr_report.specs.declared.interval.Interval.{Interval}
use Rattle.pr_report.specs.declared.interval.Interval.TheVariants.{FirstPull, Answer, AnswerLength, PullAfterAnswer, ShortestLow, LongestLow, ShortestHigh, LongestHigh, Acknowledgement}
use Rattle.pr_report.specs.Intervals.{length_of, name_of, transfer_of}
use Rattle.pr_report.specs.Numbers.{numbered}

-- what a reading is: a whole byte with its value, or an incomplete one with the number of its bits
abbrev pub kind_text : Reading → List ℕ
kind_text (Frame t end) = codes "{\"kind\":\"byte\",\"role\":"
kind_text (IncompleteByte t end) = codes "{\"kind\":\"incomplete\",\"role\":"

abbrev pub role_text : (is_command : Bool) → List ℕ
role_text true = codes "\"command\""
role_text false = codes "\"data\""

abbrev pub value_text : Reading → List ℕ
value_text (Frame t end) = numbered (codes ",\"value\":") t.byte
value_text (IncompleteByte t end) = numbered (codes ",\"bits\":") t.bits

abbrev pub eoi_text : Option Pulse → List ℕ
eoi_text (Some p) = codes ",\"eoi\":true"
eoi_text None = codes ",\"eoi\":false"

-- its moments: CLOCK is released, all listeners are ready, CLOCK's first pull, and its last
abbrev pub moments_text : Transfer → List ℕ
moments_text t =
    numbered (codes ",\"at\":") t.opening.ready_to_send ++ numbered (codes ",\"ready\":") t.opening.ready_for_data
    ++ numbered (codes ",\"first pull\":") t.pull ++ numbered (codes ",\"last pull\":") t.last_pull

-- how it ends, and when
abbrev pub frame_end : FrameEnd → List ℕ
frame_end (frame.Acknowledged k) = numbered (codes ",\"end\":\"acknowledged\",\"ended\":") k
frame_end (frame.Unacknowledged k) = numbered (codes ",\"end\":\"unacknowledged\",\"ended\":") k
frame_end frame.Cut = codes ",\"end\":\"cut\",\"ended\":null"

abbrev pub incomplete_end : IncompleteEnd → List ℕ
incomplete_end (glitch.Attention k) = numbered (codes ",\"end\":\"attention\",\"ended\":") k
incomplete_end (glitch.ClockTimeout k) = numbered (codes ",\"end\":\"clock timeout\",\"ended\":") k
incomplete_end glitch.Cut = codes ",\"end\":\"cut\",\"ended\":null"

abbrev pub end_text : Reading → List ℕ
end_text (Frame t end) = frame_end end
end_text (IncompleteByte t end) = incomplete_end end

-- its intervals: the first, which every reading has, and those after it that it has
abbrev pub later_intervals : List Interval
later_intervals =
    FirstPull ∷ Answer ∷ AnswerLength ∷ PullAfterAnswer
    ∷ ShortestLow ∷ LongestLow ∷ ShortestHigh ∷ LongestHigh ∷ Acknowledgement ∷ []

abbrev pub member : Interval → Option ℕ → List ℕ
member i None = []
member i (Some n) = codes ",\"" ++ name_of i ++ numbered (codes "\":") n

abbrev pub members : List Interval → Reading → List ℕ
members [] r = []
members (i ∷ is) r = member i (length_of i r) ++ members is r

abbrev pub ready_text : Transfer → List ℕ
ready_text t = numbered (codes ",\"intervals\":{\"ready\":") (t.opening.ready_for_data - t.opening.ready_to_send)

abbrev pub intervals_text : Reading → List ℕ
intervals_text r = ready_text (transfer_of r) ++ members later_intervals r ++ codes "}"

-- the line of a reading
abbrev pub what_text : Reading → List ℕ
what_text r =
    kind_text r ++ role_text (transfer_of r).opening.command ++ value_text r ++ eoi_text (transfer_of r).opening.pulse

unfoldable pub json_line : Reading → List ℕ
json_line r = what_text r ++ moments_text (transfer_of r) ++ end_text r ++ intervals_text r ++ codes "}\n"

-- the lines of readings
abbrev pub json_lines : List Reading → List ℕ
json_lines [] = []
json_lines (r ∷ rs) = json_line r ++ json_lines rs

-- whether edges are lawful in this profile, and if not, their first fault, in the words of `check`; edges count from 0
abbrev pub json_flaw : (edge : ℕ) → (reason : List ℕ) → List ℕ
json_flaw n reason = numbered (codes "{\"kind\":\"verdict\",\"lawful\":false,\"edge\":") n ++ reason

abbrev pub json_verdict : Option WaveFault → List ℕ
json_verdict None = codes "{\"kind\":\"verdict\",\"lawful\":true}\n"
json_verdict (Some (fault.Start n)) = json_flaw n (codes ",\"fault\":\"bad start\"}\n")
json_verdict (Some (fault.Order n)) = json_flaw n (codes ",\"fault\":\"bad order\"}\n")
json_verdict (Some (fault.TooEarly n)) = json_flaw n (codes ",\"fault\":\"too early\"}\n")
json_verdict (Some (fault.TooLate n)) = json_flaw n (codes ",\"fault\":\"too late\"}\n")
json_verdict (Some (fault.Shape n)) = json_flaw n (codes ",\"fault\":\"bad shape\"}\n")
json_verdict (Some (fault.Truncated n)) = json_flaw n (codes ",\"fault\":\"truncated\"}\n")
json_verdict (Some fault.NoMemory) = codes "{\"kind\":\"verdict\",\"lawful\":false,\"fault\":\"out of memory\"}\n"
