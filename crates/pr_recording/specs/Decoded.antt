-- Trusted: what `decode` answers for a recording in any format, and what it leaves in the reader and in the writer.
use Rattle.std.specs.Prelude.{◌≡◌, ℕ, ◌+◌, ◌<◌, ◌≤◌, nat_lt, List, [], ◌∷◌, ◌++◌, length, take, Option, Some, None, Result, Ok, Err, IfOk, if◌then◌else◌}
use Rattle.std.specs.Io.KnownBytes.{Appends, IsAtEnd}
use Rattle.pr_wire.specs.declared.Edge.{Edge}
use Rattle.pr_wire.specs.declared.WaveFault.TheVariants as wave
use Rattle.pr_wire.specs.declared.text.TraceFault.TheVariants as trace
use Rattle.pr_wire.specs.Table.{fault_of}
use Rattle.pr_capture.specs.declared.fault.CaptureFault.TheVariants as capture
use Rattle.pr_decode.specs.Readings.{readings_of, settled_of}
use Rattle.pr_wire.specs.declared.WaveFault.{WaveFault}
use Rattle.pr_decode.specs.declared.reading.Reading.{Reading}
use Rattle.pr_report.specs.Contexts.{at_start}
use Rattle.pr_report.specs.JsonText.{json_lines, json_verdict}
use Rattle.pr_report.specs.ReadingText.{all_lines}
use Rattle.pr_report.specs.Summary.{summary}
use Rattle.pr_report.specs.Verdict.{conclusion}
use Rattle.pr_report.specs.Oddities.{oddities_of, oddities_text}
use Rattle.pr_report.specs.declared.oddities.Oddities.{Oddities}
use Rattle.pr_capture.specs.declared.format.TraceInput.{TraceInput}
use Rattle.pr_input.specs.PartlyWritten.{AppendsFront}
use Rattle.pr_jobs.specs.Report.{Says, edges_checked}
use Rattle.pr_recording.specs.declared.wording.Wording.{Wording}
use Rattle.pr_recording.specs.declared.wording.Wording.TheVariants.{Json, Lines}
use Rattle.pr_jobs.specs.declared.fault.CliFault.{CliFault}
use Rattle.pr_jobs.specs.declared.fault.CliFault.TheVariants.{Script, Trace, Wave, Capture, Picture, TooLarge, NoMemory, ReadFailed, WriteFailed}

-- Where a recording stops.

-- the index of the first edge that is earlier than the edge before it, if there is one
abbrev pub back_behind : (index last : ℕ) → List Edge → Option ℕ
back_behind i last [] = None
back_behind i last (e ∷ es) = if nat_lt e.time last then Some i else back_behind (i + 1) e.time es

abbrev pub back_in : List Edge → Option ℕ
back_in [] = None
back_in (e ∷ es) = back_behind 1 e.time es

-- the edges before an index, or all
abbrev pub in_front : Option ℕ → List Edge → List Edge
in_front None edges = edges
in_front (Some n) edges = take n edges

-- why a recording is read no further: time goes back at an edge, or else it has this fault
abbrev pub stop_at : (back : Option ℕ) → (own : Option CliFault) → Option CliFault
stop_at None own = own
stop_at (Some n) own = Some (Wave (wave.Order n))

-- what it says: the readings of all its edges, or where it stops those that its edges settle up to there
abbrev pub readings_up_to : (stop : Option CliFault) → List Edge → List Reading
readings_up_to None edges = readings_of edges
readings_up_to (Some fault) edges = settled_of (in_front (back_in edges) edges)

-- What is written.

-- the text of readings
abbrev pub readings_text : Wording → List Reading → List ℕ
readings_text (Lines d) rs = all_lines d at_start rs
readings_text Json rs = json_lines rs

-- what follows it at the end of a whole recording, by the fault of its edges: in lines the summary, the verdict, and
-- what is odd about it
abbrev pub last_lines : Wording → TraceInput → Option WaveFault → List Edge → List Reading → List ℕ
last_lines (Lines d) input fault edges rs =
    summary d.intervals d.bounds rs ++ (conclusion d.bounds fault rs ++ oddities_text input (oddities_of edges rs))
last_lines Json input fault edges rs = json_verdict fault

-- for a whole recording both, with the fault that `check` finds; for any other the text of what its edges settle up to
-- where it stops
abbrev pub told_of : Wording → TraceInput → (stop : Option CliFault) → List Edge → List ℕ
told_of w input None edges =
    readings_text w (readings_up_to None edges)
    ++ last_lines w input (fault_of (edges_checked input.source edges)) edges (readings_of edges)
told_of w input (Some fault) edges = readings_text w (readings_up_to (Some fault) edges)

-- what the writer holds with each answer, by the limit and the length of the input, why it stops, and the text for it
abbrev pub Leaves :
    (limit len : ℕ) → (stop : Option CliFault) → (told : List ℕ) → Option (List ℕ) → Option (List ℕ)
    → Result (Unit {0}) CliFault
    → Type 0
Leaves limit len stop told old new (Ok _) = (len ≤ limit) × (stop ≡ None) × Appends old new told
Leaves limit len stop told old new (Err (Script fault)) = ⊥
Leaves limit len stop told old new (Err (Trace fault)) = (stop ≡ Some (Trace fault)) × Appends old new told
Leaves limit len stop told old new (Err (Wave fault)) = (stop ≡ Some (Wave fault)) × Appends old new told
Leaves limit len stop told old new (Err (Capture fault)) = (stop ≡ Some (Capture fault)) × Appends old new told
Leaves limit len stop told old new (Err (Picture fault)) = ⊥
Leaves limit len stop told old new (Err TooLarge) = (limit < len) × AppendsFront old new told
Leaves limit len stop told old new (Err NoMemory) = AppendsFront old new told
Leaves limit len stop told old new (Err ReadFailed) = AppendsFront old new told
Leaves limit len stop told old new (Err WriteFailed) = AppendsFront old new told

-- an answer without what is odd
abbrev pub without_odd : Result Oddities CliFault → Result (Unit {0}) CliFault
without_odd (Ok odd) = Ok tt
without_odd (Err fault) = Err fault

-- the answer, by the wording, by the text and by what the writer held before and after; it says what is odd, of which JSON
-- has no line, and how many pulses are brief, of which no text has one
pub record AnswersDecode (limit : ℕ) (w : Wording) (input : TraceInput) (text : List ℕ) (old new : Option (List ℕ))
    (result : Result Oddities CliFault) : Type 0 where
  pub edges : List Edge
  pub own : Option CliFault
  pub says : Says input text edges own
  pub leaves : Leaves limit (length text) (stop_at (back_in edges) own)
      (told_of w input (stop_at (back_in edges) own) edges) old new (without_odd result)
  pub odd : IfOk result (λ odd. odd ≡ oddities_of edges (readings_of edges))

-- the input has been read to its end where all of it is answered
abbrev pub ReadsAll : Option (List ℕ) → Result Oddities CliFault → Type 0
ReadsAll left (Ok _) = IsAtEnd left
ReadsAll left (Err fault) = Unit {0}

-- a fault of a recording: of its edges only that time goes back; lack of memory is always `NoMemory` itself
abbrev pub IsDecodeFault : CliFault → Type 0
IsDecodeFault (Script fault) = ⊥
IsDecodeFault (Picture fault) = ⊥
IsDecodeFault (Trace trace.NoMemory) = ⊥
IsDecodeFault (Wave (wave.Order n)) = Unit {0}
IsDecodeFault (Wave fault) = ⊥
IsDecodeFault (Capture capture.NoMemory) = ⊥
IsDecodeFault _ = Unit {0}
