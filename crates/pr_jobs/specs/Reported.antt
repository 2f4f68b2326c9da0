-- Linking words, for proofs: which lines were made of the frames of a trace, and what a part of `check` answers. No reader needs to
-- believe them.
use Rattle.std.specs.Prelude.{◌≡◌, ℕ, ◌<◌, Bool, false, List, [], ◌∷◌, ◌++◌, codes, flat_map, length, Option, Some, None, Result, Ok, Err, IfSome}
use Rattle.std.specs.Io.KnownBytes.{Appends, IsAtEnd}
use Rattle.pr_wire.specs.declared.Edge.{Edge}
use Rattle.pr_wire.specs.declared.WaveFault.{WaveFault}
use Rattle.pr_wire.specs.declared.WaveFault.TheVariants as wave
use Rattle.pr_wire.specs.Table.{fault_of}
use Rattle.pr_report.specs.declared.frame_timer.FrameTimer.{FrameTimer}
use Rattle.pr_report.specs.declared.timed_frame.TimedFrame.{TimedFrame}
use Rattle.pr_report.specs.Moments.{frame_told, timed_frames}
use Rattle.pr_report.specs.StoryText.{is_data, story_line, story_lines}
use Rattle.pr_report.specs.FrameTiming.{HasTold, number_taken}
use Rattle.pr_report.specs.declared.report.Report.{Report}
use Rattle.pr_report.specs.declared.report.Report.TheVariants as report
use Rattle.pr_capture.specs.declared.format.InputFormat.{InputFormat}
use Rattle.pr_capture.specs.declared.format.TraceInput.{TraceInput}
use Rattle.pr_jobs.specs.Begun.{HasBegun}
use Rattle.pr_jobs.specs.FrameText.{frame_line}
use Rattle.pr_jobs.specs.EdgesTaken.{EndsReading}
use Rattle.pr_jobs.specs.Report.{SaysWhole, edges_checked, refusal, IsReport, IsWhole, IsOwnFault}
use Rattle.pr_input.specs.PartlyWritten.{AppendsFront}
use Rattle.pr_jobs.specs.declared.reporter.FrameReporter.{FrameReporter}
use Rattle.pr_jobs.specs.declared.reporter.ReportText.{ReportText}
use Rattle.pr_jobs.specs.declared.trace_reporter.TraceReporter.{TraceReporter}
use Rattle.pr_jobs.specs.declared.input_reader.InputReader.{InputReader}
use Rattle.pr_jobs.specs.declared.fault.CliFault.{CliFault}
use Rattle.pr_jobs.specs.declared.fault.CliFault.TheVariants.{Script, Trace, Wave, Capture, Picture, TooLarge, NoMemory, ReadFailed, WriteFailed}

-- a fault of a trace, itself or of its edges
abbrev pub IsTraceFault : CliFault → Type 0
IsTraceFault (Wave wave.NoMemory) = ⊥
IsTraceFault (Wave fault) = Unit {0}
IsTraceFault fault = IsOwnFault fault

-- Lines of frames.

-- a frame's lines in a report, by whether it follows a data byte
abbrev pub lines_of_frame : Report → (behind_data : Bool) → TimedFrame → List ℕ
lines_of_frame report.Frames behind_data f = frame_line (frame_told f)
lines_of_frame report.Story behind_data f = story_line behind_data f

-- the lines of frames
abbrev pub lines_of_frames : Report → List TimedFrame → List ℕ
lines_of_frames report.Frames fs = flat_map (λ f. frame_line (frame_told f)) fs
lines_of_frames report.Story fs = story_lines false fs

-- the last of frames is a data byte, or comes before them
abbrev pub data_behind : (behind_data : Bool) → List TimedFrame → Bool
data_behind behind_data [] = behind_data
data_behind behind_data (f ∷ fs) = data_behind (is_data f.sending) fs

-- how many edges a reporter has taken
abbrev pub edges_taken : FrameReporter → ℕ
edges_taken r = number_taken r.timer

-- these edges end these frames, or have this fault, whatever follows
abbrev pub TellsSoFar : (edges : List Edge) → (given : List TimedFrame) → FrameTimer → Option WaveFault → Type 0
TellsSoFar edges given timer None = HasTold edges given timer
TellsSoFar edges given timer (Some w) =
    (more : List Edge) → (fault_of (edges ++ more) ≡ Some w) × (timed_frames (edges ++ more) ≡ given)

-- the reporter has taken these edges, and its lines are those of their frames
pub record HasReported (report : Report) (edges : List Edge) (r : FrameReporter) : Type 0 where
  pub report_is : r.report ≡ report
  pub given : List TimedFrame
  pub lines : r.lines.items ≡ lines_of_frames report given
  pub behind : r.behind_data ≡ data_behind false given
  pub told : TellsSoFar edges given r.timer r.fault
  pub memory : r.fault ≡ Some wave.NoMemory → ⊥

-- the lines of a frame were added
pub record AddsLines (f : TimedFrame) (old new : FrameReporter) : Type 0 where
  pub report_is : new.report ≡ old.report
  pub timer_is : new.timer ≡ old.timer
  pub fault_is : new.fault ≡ old.fault
  pub lines : new.lines.items ≡ old.lines.items ++ lines_of_frame old.report old.behind_data f
  pub behind : new.behind_data ≡ is_data f.sending

-- the reporter has taken these edges too
abbrev pub ReportsMore : (more : List Edge) → (old new : FrameReporter) → Type 0
ReportsMore more old new =
    (report : Report) (edges : List Edge) → HasReported report edges old → HasReported report (edges ++ more) new

-- the fault of the edges taken, if they have one; the frames are all of theirs
pub record IsEdgeFault (edges : List Edge) (given : List TimedFrame) (fault : Option WaveFault) : Type 0 where
  pub fault_is : fault ≡ fault_of edges
  pub frames : timed_frames edges ≡ given
  pub memory : fault ≡ Some wave.NoMemory → ⊥

abbrev pub HasEnded : FrameReporter → Option WaveFault → Type 0
HasEnded r fault =
    (report : Report) (edges : List Edge) → (h : HasReported report edges r) → IsEdgeFault edges h.given fault

-- the last line of a report
abbrev pub last_line : (refused : Option CliFault) → List ℕ
last_line None = codes "lawful\n"
last_line (Some fault) = []

-- the lines for edges that are refused so, or are not
abbrev pub AreLines : Report → List Edge → (refused : Option CliFault) → (lines : List ℕ) → Type 0
AreLines report edges None lines = IsReport report edges None lines
AreLines report edges (Some fault) lines = lines ≡ lines_of_frames report (timed_frames edges)

-- the lines for edges of an input with this fault, if it has one, and why they are refused, if they are
pub record EndsReport (report : Report) (edges : List Edge) (own : Option CliFault) (t : ReportText) : Type 0 where
  pub is_refused : t.refused ≡ refusal own (fault_of edges)
  pub are_lines : AreLines report edges t.refused t.lines.items
  pub faults : IfSome own IsOwnFault → IfSome t.refused IsTraceFault

-- Reports on inputs.

-- a reporter has taken these edges of an input in this format
pub record HasCounted (source : InputFormat) (report : Report) (edges : List Edge) (r : TraceReporter) : Type 0 where
  pub begun : HasBegun source edges r.beginning
  pub reported : HasReported report (edges_checked source edges) r.frames

-- the reporter has taken these edges too
abbrev pub CountsMore : (more : List Edge) → (old new : TraceReporter) → Type 0
CountsMore more old new =
    (source : InputFormat) (report : Report) (edges : List Edge) → HasCounted source report edges old
    → HasCounted source report (edges ++ more) new

-- how many edges it has taken
abbrev pub edges_counted : TraceReporter → ℕ
edges_counted r = edges_taken r.frames

-- the report on an input, whole or up to its fault
pub record IsReportOf (limit : ℕ) (input : TraceInput) (report : Report) (text : List ℕ) (t : ReportText) : Type 0 where
  pub edges : List Edge
  pub own : Option CliFault
  pub is_own : IfSome own IsOwnFault
  pub says : SaysWhole limit input edges own text
  pub ends : EndsReport report (edges_checked input.source edges) own t

-- the report on an input of at most this many bytes, or why there is none
abbrev pub GivesReport : ℕ → TraceInput → Report → Result ReportText CliFault → List ℕ → Type 0
GivesReport limit input report (Ok t) text = IsReportOf limit input report text t
GivesReport limit input report (Err TooLarge) text = limit < length text
GivesReport limit input report (Err NoMemory) text = Unit {0}
GivesReport limit input report (Err ReadFailed) text = Unit {0}
GivesReport limit input report (Err WriteFailed) text = ⊥
GivesReport limit input report (Err (Script fault)) text = ⊥
GivesReport limit input report (Err (Trace fault)) text = ⊥
GivesReport limit input report (Err (Wave fault)) text = ⊥
GivesReport limit input report (Err (Capture fault)) text = ⊥
GivesReport limit input report (Err (Picture fault)) text = ⊥

-- so far as its end was read
abbrev pub HasReadAll : Option (List ℕ) → Result ReportText CliFault → Type 0
HasReadAll left (Ok t) = IsWhole t.refused → IsAtEnd left
HasReadAll left (Err fault) = Unit {0}

-- why a report is refused, if it is: never for lack of memory
abbrev pub IsRefused : ReportText → Type 0
IsRefused t = IfSome t.refused IsTraceFault

-- the report on an input that ends here, or has had its fault, where the lines of the edges before the last block were made
abbrev pub EndsReported : InputReader → TraceReporter → ReportText → Type 0
EndsReported r frames t =
    (source : InputFormat) (report : Report)
    → EndsReading r (λ edges. HasCounted source report edges frames) (λ edges own. EndsReport report (edges_checked source edges) own t)

-- what the lines of a report come to that are written
abbrev pub WritesText : ReportText → Option (List ℕ) → Option (List ℕ) → Result (Unit {0}) CliFault → Type 0
WritesText t old new (Ok _) = (t.refused ≡ None) × Appends old new t.lines.items
WritesText t old new (Err WriteFailed) = AppendsFront old new t.lines.items
WritesText t old new (Err fault) = (t.refused ≡ Some fault) × Appends old new t.lines.items
