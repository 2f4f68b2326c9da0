-- Linking words, for proofs: which edges were taken, and which lines were made and written of them. No reader needs to
-- believe them.
use Rattle.std.specs.Prelude.{◌≡◌, ℕ, ◌+◌, Bool, true, false, List, ◌++◌, Option, Some, None, Result, Ok, Err}
use Rattle.std.specs.Io.KnownBytes.{Appends}
use Rattle.pr_wire.specs.declared.Edge.{Edge}
use Rattle.pr_wire.specs.declared.WaveFault.TheVariants as wave
use Rattle.pr_capture.specs.declared.format.InputFormat.{InputFormat}
use Rattle.pr_capture.specs.declared.format.TraceInput.{TraceInput}
use Rattle.pr_decode.specs.declared.reading.Reading.{Reading}
use Rattle.pr_decode.specs.Readings.{readings_of}
use Rattle.pr_report.specs.declared.detail.Bounds.{Bounds}
use Rattle.pr_report.specs.declared.detail.Bounds.TheVariants.{Profile}
use Rattle.pr_report.specs.declared.context.Context.{Context}
use Rattle.pr_report.specs.Contexts.{at_start, behind_all}
use Rattle.pr_report.specs.JsonText.{json_line}
use Rattle.pr_report.specs.ReadingText.{reading_lines}
use Rattle.pr_report.specs.Oddities.{oddities_of}
use Rattle.pr_report.specs.declared.oddities.Oddities.{Oddities}
use Rattle.pr_report.specs.Taking as survey
use Rattle.pr_input.specs.PartlyWritten.{AppendsFront}
use Rattle.pr_jobs.specs.EdgesTaken.{EndsReading}
use Rattle.pr_jobs.specs.Report.{IsOwnFault, IsReportFault}
use Rattle.pr_jobs.specs.declared.fault.CliFault.{CliFault}
use Rattle.pr_jobs.specs.declared.fault.CliFault.TheVariants.{Wave, WriteFailed}
use Rattle.pr_jobs.specs.declared.input_reader.InputReader.{InputReader}
use Rattle.pr_recording.specs.declared.wording.Wording.{Wording}
use Rattle.pr_recording.specs.declared.wording.Wording.TheVariants.{Json, Lines}
use Rattle.pr_recording.specs.declared.reading_log.ReadingLog.{ReadingLog}
use Rattle.pr_recording.specs.declared.decode_report.Ended.{Ended}
use Rattle.pr_recording.specs.declared.decode_report.DecodeReport.{DecodeReport}
use Rattle.pr_recording.specs.Taped.{HasTaped, edges_taped}
use Rattle.pr_recording.specs.Judged.{HasJudged, edges_judged}
use Rattle.pr_recording.specs.Decoded.{back_in, readings_text, stop_at, told_of}
use Rattle.pr_recording.specs.Told.{refused_for}

-- Logs of readings.

-- the text of one reading, by what comes before it
abbrev pub reading_text : Wording → Context → Reading → List ℕ
reading_text (Lines d) c r = reading_lines d c r
reading_text Json c r = json_line r

-- the bounds of a verdict: in JSON there is none by bounds
abbrev pub bounds_in : Wording → Bounds
bounds_in (Lines d) = d.bounds
bounds_in Json = Profile

-- the lines of these readings were made so, and this text of them was given up
pub record HasAccounted (w : Wording) (given : List Reading) (written : List ℕ) (a : ReadingLog) : Type 0 where
  pub wording : a.wording ≡ w
  pub surveyed : survey.HasSurveyed (bounds_in w) given a.survey
  pub context : a.context ≡ behind_all at_start given
  pub lines : written ++ a.lines.items ≡ readings_text w given

-- how many readings a log has
abbrev pub readings_told : ReadingLog → ℕ
readings_told a = survey.number_taken a.survey

-- with more readings
abbrev pub AccountsMore : List Reading → (old new : ReadingLog) → Type 0
AccountsMore more old new = (w : Wording) (given : List Reading) (written : List ℕ) → HasAccounted w given written old
    → HasAccounted w (given ++ more) written new

-- Reports on edges.

-- edges of an input in this format were taken up to where time goes back, their lines were made, and all were judged
pub record HasNarrated (s : InputFormat) (w : Wording) (edges : List Edge) (written : List ℕ) (n : DecodeReport)
    : Type 0 where
  pub judged : HasJudged s edges n.judge
  pub given : List Reading
  pub taped : HasTaped edges given n.tape
  pub accounted : HasAccounted w given written n.log

-- how many edges and readings were taken, by all that count them
abbrev pub load : DecodeReport → ℕ
load n = edges_taped n.tape + (edges_judged n.judge + readings_told n.log)

-- with more edges
abbrev pub NarratesMore : List Edge → (old new : DecodeReport) → Type 0
NarratesMore more old new =
    (s : InputFormat) (w : Wording) (edges : List Edge) (written : List ℕ) → HasNarrated s w edges written old
    → HasNarrated s w (edges ++ more) written new

-- the end of edges whose input has this fault, if it has one: why they are refused, the lines that were not given up
-- before, and what is odd where nothing stops them
pub record EndsEdges (input : TraceInput) (w : Wording) (checked : Bool) (edges : List Edge) (written : List ℕ)
    (own : Option CliFault) (t : Ended) : Type 0 where
  pub refused : t.refused ≡ refused_for checked input.source edges own
  pub lines : written ++ t.lines.items ≡ told_of w input (stop_at (back_in edges) own) edges
  pub odd : stop_at (back_in edges) own ≡ None → t.odd ≡ oddities_of edges (readings_of edges)

-- the lines that were not given up yet
abbrev pub lines_in : DecodeReport → List ℕ
lines_in n = n.log.lines.items

-- the lines so far are given up
abbrev pub GivesUp : (old new : DecodeReport) → Type 0
GivesUp old new =
    (s : InputFormat) (w : Wording) (edges : List Edge) (written : List ℕ) → HasNarrated s w edges written old
    → HasNarrated s w edges (written ++ lines_in old) new

-- the end of an input of which the edges before the last block were reported
abbrev pub EndsNarrated : TraceInput → (checked : Bool) → InputReader → DecodeReport → Ended → Type 0
EndsNarrated input c r n e =
    (w : Wording) (written : List ℕ)
    → EndsReading r (λ edges. HasNarrated input.source w edges written n)
    (λ edges own. EndsEdges input w c edges written own e)

-- What is answered.

-- why no more is reported of an input: time goes back, or it has a fault of its own
abbrev pub IsStop : CliFault → Type 0
IsStop (Wave (wave.Order n)) = Unit {0}
IsStop fault = IsOwnFault fault

-- why an input is refused at its end
abbrev pub Refuses : (checked : Bool) → CliFault → Type 0
Refuses true (Wave fault) = IsReportFault (Wave fault)
Refuses true fault = IsOwnFault fault
Refuses false fault = IsStop fault

-- what the end of an input comes to in the writer
abbrev pub WritesEnd : Ended → Option (List ℕ) → Option (List ℕ) → Result Oddities CliFault → Type 0
WritesEnd e old new (Ok odd) = (e.refused ≡ None) × (odd ≡ e.odd) × Appends old new e.lines.items
WritesEnd e old new (Err WriteFailed) = AppendsFront old new e.lines.items
WritesEnd e old new (Err fault) = (e.refused ≡ Some fault) × Appends old new e.lines.items
