-- Trusted: what `bus` answers for a script, and what it leaves in the writer.
use Rattle.std.specs.Prelude.{◌≡◌, ◌⊎◌, ℕ, ◌<◌, ◌≤◌, List, length, Option, Result, Ok, Err}
use Rattle.std.specs.Io.KnownBytes.{Appends, Keeps}
use Rattle.pr_basic.specs.declared.statement.Statement.{Statement}
use Rattle.pr_basic.specs.Grammar.{IsScript}
use Rattle.pr_basic.specs.Faults.{IsFirstFault}
use Rattle.pr_basic.specs.Runs.{run_of, items_sent}
use Rattle.pr_bus.specs.DelaysLeft.{numbers_left}
use Rattle.pr_bus.specs.Timed.{trace_from}
use Rattle.pr_channels.specs.declared.faults.Stop.{Stop}
use Rattle.pr_wire.specs.declared.Edge.{Edge}
use Rattle.pr_wire.specs.TraceText.{trace_text}
use Rattle.pr_capture.specs.Vcd.{vcd_of}
use Rattle.pr_capture.specs.declared.format.OutputFormat.{OutputFormat}
use Rattle.pr_capture.specs.declared.format.OutputFormat.TheVariants as format
use Rattle.pr_jobs.specs.Pages.{script_limit}
use Rattle.pr_jobs.specs.Runs.{ending_of, run_end}
use Rattle.pr_input.specs.PartlyWritten.{AppendsFront}
use Rattle.pr_jobs.specs.declared.run.Ending.{Ending}
use Rattle.pr_jobs.specs.declared.run.RunEnd.{RunEnd}
use Rattle.pr_jobs.specs.declared.run.Start.{Start}
use Rattle.pr_jobs.specs.declared.fault.CliFault.{CliFault}
use Rattle.pr_jobs.specs.declared.fault.CliFault.TheVariants.{Script, Trace, Wave, Capture, Picture, TooLarge, NoMemory, ReadFailed, WriteFailed}

-- a trace as text, or as a Value Change Dump
abbrev pub trace_in : OutputFormat → List Edge → List ℕ
trace_in format.Text edges = trace_text edges
trace_in format.Vcd edges = vcd_of edges

-- the timed trace of the items that a run sends, in a format
abbrev pub bus_text : Start → OutputFormat → List Statement → List ℕ
bus_text start format statements =
    trace_in format (trace_from start.present (numbers_left start.delays) (items_sent start.mode start.present statements))

-- a beginning of that text was written
abbrev pub WritesFront : Start → OutputFormat → List ℕ → Option (List ℕ) → Option (List ℕ) → Type 0
WritesFront start format script old new =
    (statements : List Statement) × (length script ≤ script_limit) × IsScript script statements
    × AppendsFront old new (bus_text start format statements)

-- the fault with which a script is refused, and what that leaves in the writer
abbrev pub RefusesBus : Start → OutputFormat → List ℕ → Option (List ℕ) → Option (List ℕ) → CliFault → Type 0
RefusesBus start format script old new (Script fault) =
    (length script ≤ script_limit) × IsFirstFault script fault × Keeps old new
RefusesBus start format script old new (Trace fault) = ⊥
RefusesBus start format script old new (Wave fault) = ⊥
RefusesBus start format script old new (Capture fault) = ⊥
RefusesBus start format script old new (Picture fault) = ⊥
RefusesBus start format script old new TooLarge = (script_limit < length script) × Keeps old new
RefusesBus start format script old new NoMemory = Keeps old new ⊎ WritesFront start format script old new
RefusesBus start format script old new ReadFailed = Keeps old new
RefusesBus start format script old new WriteFailed = WritesFront start format script old new

-- the answer, by the script and by what the writer held before and after, where the end of a run with this stop is said so
abbrev pub SaysBus : {E : Type 0} → (said : Option (ℕ × Stop) → E)
    → Start → OutputFormat → List ℕ → Option (List ℕ) → Option (List ℕ) → Result E CliFault → Type 0
SaysBus said start format script old new (Ok end) =
    (statements : List Statement) × (length script ≤ script_limit) × IsScript script statements
    × (end ≡ said (run_of start.mode start.present statements).stop)
    × Appends old new (bus_text start format statements)
SaysBus said start format script old new (Err fault) = RefusesBus start format script old new fault

-- that with whether an error stopped the run
abbrev pub AnswersBus :
    Start → OutputFormat → List ℕ → Option (List ℕ) → Option (List ℕ) → Result Ending CliFault → Type 0
AnswersBus start format script old new result = SaysBus ending_of start format script old new result

-- that with the error, and the statement that it stopped
abbrev pub AnswersBusAs :
    Start → OutputFormat → List ℕ → Option (List ℕ) → Option (List ℕ) → Result RunEnd CliFault → Type 0
AnswersBusAs start format script old new result = SaysBus run_end start format script old new result

-- every refusal but WriteFailed and NoMemory leaves the writer's bytes as they were, whatever the reader gives
abbrev pub WritesNoEdge : {E : Type 0} → Option (List ℕ) → Option (List ℕ) → Result E CliFault → Type 0
WritesNoEdge old new (Ok ending) = Unit {0}
WritesNoEdge old new (Err (Script fault)) = Keeps old new
WritesNoEdge old new (Err (Trace fault)) = Keeps old new
WritesNoEdge old new (Err (Wave fault)) = Keeps old new
WritesNoEdge old new (Err (Capture fault)) = Keeps old new
WritesNoEdge old new (Err (Picture fault)) = Keeps old new
WritesNoEdge old new (Err TooLarge) = Keeps old new
WritesNoEdge old new (Err NoMemory) = Unit {0}
WritesNoEdge old new (Err ReadFailed) = Keeps old new
WritesNoEdge old new (Err WriteFailed) = Unit {0}
