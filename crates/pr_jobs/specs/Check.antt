-- Trusted: what `check` answers for a trace text, and what it leaves in the reader and in the writer.
use Rattle.std.specs.Prelude.{◌≡◌, ℕ, ◌<◌, ◌≤◌, List, length, Option, Some, Result, Ok, Err}
use Rattle.std.specs.Io.KnownBytes.{Appends, Keeps}
use Rattle.pr_wire.specs.declared.Edge.{Edge}
use Rattle.pr_wire.specs.declared.Frame.{Frame}
use Rattle.pr_wire.specs.declared.WaveFault.{WaveFault}
use Rattle.pr_wire.specs.declared.WaveFault.TheVariants as wave
use Rattle.pr_wire.specs.declared.text.TraceFault.{TraceFault}
use Rattle.pr_wire.specs.declared.text.TraceFault.TheVariants as trace
use Rattle.pr_wire.specs.Pieces.{Spells}
use Rattle.pr_wire.specs.Table.{fault_of}
use Rattle.pr_wire.specs.TraceText.{IsFirstBad, IsTraceText}
use Rattle.pr_jobs.specs.FrameText.{frame_lines}
use Rattle.pr_input.specs.PartlyWritten.{AppendsFront}
use Rattle.pr_jobs.specs.declared.fault.CliFault.{CliFault}
use Rattle.pr_jobs.specs.declared.fault.CliFault.TheVariants.{Script, Trace, Wave, Capture, Picture, TooLarge, NoMemory, ReadFailed, WriteFailed}

-- the most bytes of a trace text
abbrev pub trace_limit : ℕ
trace_limit = 1099511627776

-- the text of a lawful trace that spells these frames
pub record IsLawfulText (text : List ℕ) (frames : List Frame) : Type 0 where
  pub edges : List Edge
  pub is_text : IsTraceText text edges
  pub spelled : Spells edges frames

-- a text that is no trace text, with the number of its first bad line
abbrev pub IsBadText : List ℕ → TraceFault → Type 0
IsBadText text (trace.BadLine n) = IsFirstBad n text
IsBadText text trace.NoMemory = ⊥

-- the text of edges that are no lawful trace, with their first fault
pub record IsFaultyText (text : List ℕ) (fault : WaveFault) : Type 0 where
  pub edges : List Edge
  pub is_text : IsTraceText text edges
  pub is_fault : fault_of edges ≡ Some fault

-- the answer, by the text and by what the writer held before and after
abbrev pub AnswersCheck : List ℕ → Option (List ℕ) → Option (List ℕ) → Result (Unit {0}) CliFault → Type 0
AnswersCheck text old new (Ok _) = (frames : List Frame) × (length text ≤ trace_limit)
    × IsLawfulText text frames × Appends old new (frame_lines frames)
AnswersCheck text old new (Err (Script fault)) = ⊥
AnswersCheck text old new (Err (Trace fault)) = (length text ≤ trace_limit) × IsBadText text fault × Keeps old new
AnswersCheck text old new (Err (Wave fault)) = (length text ≤ trace_limit) × IsFaultyText text fault × Keeps old new
AnswersCheck text old new (Err (Capture fault)) = ⊥
AnswersCheck text old new (Err (Picture fault)) = ⊥
AnswersCheck text old new (Err TooLarge) = (trace_limit < length text) × Keeps old new
AnswersCheck text old new (Err NoMemory) = Keeps old new
AnswersCheck text old new (Err ReadFailed) = Keeps old new
AnswersCheck text old new (Err WriteFailed) =
    (frames : List Frame) × (length text ≤ trace_limit) × IsLawfulText text frames
    × AppendsFront old new (frame_lines frames)

-- a fault of `check`: never one of a script; lack of memory is always `NoMemory` itself
abbrev pub IsCheckFault : CliFault → Type 0
IsCheckFault (Script fault) = ⊥
IsCheckFault (Trace trace.NoMemory) = ⊥
IsCheckFault (Wave wave.NoMemory) = ⊥
IsCheckFault (Capture fault) = ⊥
IsCheckFault (Picture fault) = ⊥
IsCheckFault _ = Unit {0}
