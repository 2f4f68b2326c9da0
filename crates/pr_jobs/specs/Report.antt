-- Trusted: what `check` answers for an input of any format and for a report of any kind, and what
-- it leaves in the reader and in the writer.
use Rattle.std.specs.Prelude.{◌≡◌, ℕ, ◌<◌, ◌≤◌, ◌==◌, false, if◌then◌else◌, List, [], ◌∷◌, length, map, Option, Some, None, option_map, Result, Ok, Err}
use Rattle.std.specs.Io.KnownBytes.{Appends, IsAtEnd, Keeps}
use Rattle.pr_wire.specs.declared.Edge.{Edge}
use Rattle.pr_wire.specs.declared.Frame.{Frame}
use Rattle.pr_wire.specs.declared.WaveFault.{WaveFault}
use Rattle.pr_wire.specs.declared.WaveFault.TheVariants as wave
use Rattle.pr_wire.specs.declared.text.TraceFault.TheVariants as trace
use Rattle.pr_wire.specs.Pieces.{Spells}
use Rattle.pr_wire.specs.Table.{fault_of}
use Rattle.pr_wire.specs.TraceText.{SaysEdges}
use Rattle.pr_capture.specs.declared.fault.CaptureFault.TheVariants as capture
use Rattle.pr_capture.specs.Csv.{csv_contents}
use Rattle.pr_capture.specs.Recording.{CaptureContents}
use Rattle.pr_capture.specs.Pulses.{without_pulses}
use Rattle.pr_capture.specs.Samples.{counted_from, edges_of}
use Rattle.pr_capture.specs.VcdReading.{vcd_contents}
use Rattle.pr_report.specs.Moments.{timed_frames}
use Rattle.pr_report.specs.StoryText.{story_lines, story_of}
use Rattle.pr_report.specs.declared.report.Report.{Report}
use Rattle.pr_report.specs.declared.report.Report.TheVariants as report
use Rattle.pr_capture.specs.declared.format.InputFormat.{InputFormat}
use Rattle.pr_capture.specs.declared.format.InputFormat.TheVariants as source
use Rattle.pr_capture.specs.declared.format.TraceInput.{TraceInput}
use Rattle.pr_jobs.specs.Check.{trace_limit}
use Rattle.pr_jobs.specs.FrameText.{frame_lines}
use Rattle.pr_input.specs.PartlyWritten.{AppendsFront}
use Rattle.pr_jobs.specs.declared.fault.CliFault.{CliFault}
use Rattle.pr_jobs.specs.declared.fault.CliFault.TheVariants.{Script, Trace, Wave, Capture, Picture, TooLarge, NoMemory, ReadFailed, WriteFailed}

-- What an input says.

-- a recording's samples, and its fault if it has one
abbrev pub IsTold : CaptureContents → (samples : List Edge) → (fault : Option CliFault) → Type 0
IsTold told samples fault = (told.samples ≡ samples) × (option_map (λ f. Capture f) told.fault ≡ fault)

-- the samples, or edges, of a text in a format, and its fault if it has one
abbrev pub SaysSamples : TraceInput → InputFormat → (text : List ℕ) → (samples : List Edge) → (fault : Option CliFault)
    → Type 0
SaysSamples input source.Text text samples fault =
    (bad : Option ℕ) × SaysEdges text samples bad × (option_map (λ n. Trace (trace.BadLine n)) bad ≡ fault)
SaysSamples input source.Csv text samples fault = IsTold (csv_contents input.signals input.rate text) samples fault
SaysSamples input source.Vcd text samples fault = IsTold (vcd_contents input.signals text) samples fault

-- the edges that the samples of a format are, from a start on; a trace text already has edges
abbrev pub edges_found : InputFormat → (start : ℕ) → (samples : List Edge) → List Edge
edges_found source.Text start samples = samples
edges_found source.Csv start samples = edges_of start samples
edges_found source.Vcd start samples = edges_of start samples

-- edges without the pulses of a line that last at most so many microseconds; with 0 all of them
abbrev pub steadied : (pulse : ℕ) → List Edge → List Edge
steadied pulse edges = if pulse == 0 then edges else without_pulses pulse edges

-- the edges that samples make, without such pulses
abbrev pub edges_made : InputFormat → (start pulse : ℕ) → (samples : List Edge) → List Edge
edges_made source start pulse samples = steadied pulse (edges_found source start samples)

-- the edges that `check` holds against the table of lawful traces: those of a trace text as they are; those of a recording
-- counted from the first, at which the three levels are first known: that is later than the start asked for, or at it
abbrev pub counted_from_first : List Edge → List Edge
counted_from_first [] = []
counted_from_first (e ∷ es) = map (counted_from e.time) (e ∷ es)

abbrev pub edges_checked : InputFormat → List Edge → List Edge
edges_checked source.Text edges = edges
edges_checked source.Csv edges = counted_from_first edges
edges_checked source.Vcd edges = counted_from_first edges

-- the edges of an input up to its fault, and its fault if it has one
pub record Says (input : TraceInput) (text : List ℕ) (edges : List Edge) (fault : Option CliFault) : Type 0 where
  pub samples : List Edge
  pub are_samples : SaysSamples input input.source text samples fault
  pub are_edges : edges ≡ edges_made input.source input.start input.pulse samples

-- a fault of an input itself: of its text, not of its edges, of memory or of reading
abbrev pub IsOwnFault : CliFault → Type 0
IsOwnFault (Trace (trace.BadLine n)) = Unit {0}
IsOwnFault (Capture capture.NoMemory) = ⊥
IsOwnFault (Capture fault) = Unit {0}
IsOwnFault _ = ⊥

-- a fault of reading, or lack of memory
abbrev pub IsNoReading : CliFault → Type 0
IsNoReading TooLarge = Unit {0}
IsNoReading NoMemory = Unit {0}
IsNoReading ReadFailed = Unit {0}
IsNoReading _ = ⊥

-- a text of at most this many bytes says these edges, or more bytes say them and then have this fault
pub record SaysWhole (limit : ℕ) (input : TraceInput) (edges : List Edge) (fault : Option CliFault)
    (text : List ℕ) : Type 0 where
  pub says : Says input text edges fault
  pub short : fault ≡ None → length text ≤ limit

-- What is written.

-- why a trace is refused: for the fault of its input, or else for that of its edges
abbrev pub refusal : (own : Option CliFault) → (fault : Option WaveFault) → Option CliFault
refusal (Some own) fault = Some own
refusal None fault = option_map (λ w. Wave w) fault

-- the report on edges, with the fault that refuses them if there is one: frames only without a
-- fault, a story up to the fault
abbrev pub IsReport : Report → List Edge → (refused : Option CliFault) → (text : List ℕ) → Type 0
IsReport report.Frames edges None text = (frames : List Frame) × Spells edges frames × (text ≡ frame_lines frames)
IsReport report.Frames edges (Some fault) text = text ≡ []
IsReport report.Story edges None text = text ≡ story_of edges
IsReport report.Story edges (Some fault) text = text ≡ story_lines false (timed_frames edges)

-- the report on an input, and the fault that refuses it, if there is one
pub record Reports (input : TraceInput) (r : Report) (text : List ℕ) (refused : Option CliFault)
    (written : List ℕ) : Type 0 where
  pub edges : List Edge
  pub fault : Option CliFault
  pub says : Says input text edges fault
  pub is_refused : refused ≡ refusal fault (fault_of (edges_checked input.source edges))
  pub is_report : IsReport r (edges_checked input.source edges) refused written

-- the report was written, and this is the fault that refuses the trace, if there is one
abbrev pub WritesReport : TraceInput → Report → List ℕ → (refused : Option CliFault) → Option (List ℕ)
    → Option (List ℕ) → Type 0
WritesReport input r text refused old new =
    (written : List ℕ) × Reports input r text refused written × Appends old new written

-- an input was read whole: nothing is refused, or only its edges are
abbrev pub IsWhole : (refused : Option CliFault) → Type 0
IsWhole None = Unit {0}
IsWhole (Some (Wave fault)) = Unit {0}
IsWhole (Some _) = ⊥

-- a report of frames is written only where nothing is refused
abbrev pub MayBeWritten : Report → (refused : Option CliFault) → Type 0
MayBeWritten report.Frames refused = refused ≡ None
MayBeWritten report.Story refused = Unit {0}

-- the report was begun, and a write failed
pub record WritesFront (input : TraceInput) (r : Report) (text : List ℕ) (old new : Option (List ℕ)) : Type 0 where
  pub refused : Option CliFault
  pub written : List ℕ
  pub reports : Reports input r text refused written
  pub to_write : MayBeWritten r refused
  pub short : IsWhole refused → length text ≤ trace_limit
  pub front : AppendsFront old new written

-- the answer, by the text and by what the writer held before and after
abbrev pub AnswersReport : TraceInput → Report → List ℕ → Option (List ℕ) → Option (List ℕ)
    → Result (Unit {0}) CliFault → Type 0
AnswersReport input r text old new (Ok _) = (length text ≤ trace_limit) × WritesReport input r text None old new
AnswersReport input r text old new (Err (Script fault)) = ⊥
AnswersReport input r text old new (Err (Trace fault)) = WritesReport input r text (Some (Trace fault)) old new
AnswersReport input r text old new (Err (Wave fault)) =
    (length text ≤ trace_limit) × WritesReport input r text (Some (Wave fault)) old new
AnswersReport input r text old new (Err (Capture fault)) = WritesReport input r text (Some (Capture fault)) old new
AnswersReport input r text old new (Err (Picture fault)) = ⊥
AnswersReport input r text old new (Err TooLarge) = (trace_limit < length text) × Keeps old new
AnswersReport input r text old new (Err NoMemory) = Keeps old new
AnswersReport input r text old new (Err ReadFailed) = Keeps old new
AnswersReport input r text old new (Err WriteFailed) = WritesFront input r text old new

-- whatever the reader gives, nothing is written where the input was not read or memory was refused,
-- nor frames of a refused trace
abbrev pub WritesNoReport : Report → Option (List ℕ) → Option (List ℕ) → Result (Unit {0}) CliFault → Type 0
WritesNoReport r old new (Err TooLarge) = Keeps old new
WritesNoReport r old new (Err NoMemory) = Keeps old new
WritesNoReport r old new (Err ReadFailed) = Keeps old new
WritesNoReport report.Frames old new (Err (Trace fault)) = Keeps old new
WritesNoReport report.Frames old new (Err (Wave fault)) = Keeps old new
WritesNoReport report.Frames old new (Err (Capture fault)) = Keeps old new
WritesNoReport _ old new _ = Unit {0}

-- the input has been read to its end where it is accepted, where its edges are refused, and where a
-- write of frames failed
abbrev pub ReadsAll : Report → Option (List ℕ) → Result (Unit {0}) CliFault → Type 0
ReadsAll r left (Ok _) = IsAtEnd left
ReadsAll r left (Err (Wave fault)) = IsAtEnd left
ReadsAll report.Frames left (Err WriteFailed) = IsAtEnd left
ReadsAll r left (Err _) = Unit {0}

-- a fault of an input: never one of a script; lack of memory is always `NoMemory` itself
abbrev pub IsReportFault : CliFault → Type 0
IsReportFault (Script fault) = ⊥
IsReportFault (Picture fault) = ⊥
IsReportFault (Trace trace.NoMemory) = ⊥
IsReportFault (Wave wave.NoMemory) = ⊥
IsReportFault (Capture capture.NoMemory) = ⊥
IsReportFault _ = Unit {0}
