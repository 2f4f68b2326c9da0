-- Linking words, for proofs: how a trace is written in parts, and what a part of `bus` answers and leaves in the writer, by the run that
-- its steps make. No reader needs to believe them.
use Rattle.std.specs.Prelude.{◌≡◌, ℕ, List, [], ◌++◌, Option, None, Result, Ok, Err, IfOk}
use Rattle.std.specs.Io.KnownBytes.{Appends}
use Rattle.pr_wire.specs.declared.Edge.{Edge}
use Rattle.pr_wire.specs.TraceText.{trace_text}
use Rattle.pr_capture.specs.Vcd.{head, last_edge, vcd_changes, vcd_end}
use Rattle.pr_capture.specs.VcdWriting.{last_written}
use Rattle.pr_capture.specs.declared.format.OutputFormat.{OutputFormat}
use Rattle.pr_capture.specs.declared.format.OutputFormat.TheVariants as format
use Rattle.pr_system.specs.RunningState.{RunningState, trace_so_far}
use Rattle.pr_jobs.specs.Bus.{trace_in}
use Rattle.pr_jobs.specs.Runs.{run_end}
use Rattle.pr_input.specs.PartlyWritten.{AppendsFront}
use Rattle.pr_jobs.specs.declared.run.RunEnd.{RunEnd}
use Rattle.pr_jobs.specs.declared.trace_writer.TraceWriter.{TraceWriter}
use Rattle.pr_jobs.specs.declared.trace_writer.TraceWriter.TheVariants as writer
use Rattle.pr_jobs.specs.declared.fault.CliFault.{CliFault}
use Rattle.pr_jobs.specs.declared.fault.CliFault.TheVariants.{Script, Trace, Wave, Capture, Picture, TooLarge, NoMemory, ReadFailed, WriteFailed}

-- what comes before the edges
abbrev pub head_in : OutputFormat → List ℕ
head_in format.Text = []
head_in format.Vcd = head

-- edges after the edge before, if any
abbrev pub edges_in : OutputFormat → (before : Option Edge) → List Edge → List ℕ
edges_in format.Text before edges = trace_text edges
edges_in format.Vcd before edges = vcd_changes before edges

-- the edge before what follows, as far as the format looks at it
abbrev pub last_in : OutputFormat → (before : Option Edge) → List Edge → Option Edge
last_in format.Text before edges = before
last_in format.Vcd before edges = last_edge before edges

-- what follows the last edge, if any
abbrev pub end_in : OutputFormat → (last : Option Edge) → List ℕ
end_in format.Text last = []
end_in format.Vcd last = vcd_end last

-- the text up to the last of these edges
abbrev pub text_so_far : OutputFormat → List Edge → List ℕ
text_so_far format edges = head_in format ++ edges_in format None edges

-- the format in which a writer writes
abbrev pub format_of : TraceWriter → OutputFormat
format_of writer.Text = format.Text
format_of (writer.Vcd w) = format.Vcd

-- the edge before those that it writes next, as far as its format looks at it
abbrev pub last_of : TraceWriter → Option Edge
last_of writer.Text = None
last_of (writer.Vcd w) = last_written w

-- a writer in this format that has written these edges
pub record HasWritten (format : OutputFormat) (edges : List Edge) (w : TraceWriter) : Type 0 where
  pub format_is : format_of w ≡ format
  pub last_is : last_of w ≡ last_in format None edges

-- a beginning of the text was written where memory or a write was refused, and nothing else was refused
abbrev pub LeavesFront : List ℕ → Option (List ℕ) → Option (List ℕ) → CliFault → Type 0
LeavesFront text old new (Script fault) = ⊥
LeavesFront text old new (Trace fault) = ⊥
LeavesFront text old new (Wave fault) = ⊥
LeavesFront text old new (Capture fault) = ⊥
LeavesFront text old new (Picture fault) = ⊥
LeavesFront text old new TooLarge = ⊥
LeavesFront text old new NoMemory = AppendsFront old new text
LeavesFront text old new ReadFailed = ⊥
LeavesFront text old new WriteFailed = AppendsFront old new text

-- the text was written, or a beginning of it
abbrev pub GivesText : {Y : Type 0} → List ℕ → Option (List ℕ) → Option (List ℕ) → Result Y CliFault → Type 0
GivesText text old new (Ok y) = Appends old new text
GivesText text old new (Err fault) = LeavesFront text old new fault

-- whatever the format, after the text of the edges before, wherever that began, a writer of these adds the text up to the edges after, or
-- a beginning of it
abbrev pub AddsEdges :
    {Y : Type 0} → TraceWriter → RunningState → RunningState → Option (List ℕ) → Option (List ℕ) → Result Y CliFault
    → Type 0
AddsEdges w before after old new result =
    (format : OutputFormat) (start : Option (List ℕ)) → HasWritten format (trace_so_far before) w
    → Appends start old (text_so_far format (trace_so_far before))
    → GivesText (text_so_far format (trace_so_far after)) start new result

-- a writer that has written the edges before has then written those after
abbrev pub WritesOn : RunningState → RunningState → (old new : TraceWriter) → Type 0
WritesOn before after old new =
    (format : OutputFormat) → HasWritten format (trace_so_far before) old → HasWritten format (trace_so_far after) new

-- the whole trace of a run, and how it ended
pub record GivesTrace (format : OutputFormat) (run : RunningState) (old new : Option (List ℕ))
    (result : Result RunEnd CliFault) : Type 0 where
  pub text : GivesText (trace_in format (trace_so_far run)) old new result
  pub ending : IfOk result (λ end. end ≡ run_end run.stop)
