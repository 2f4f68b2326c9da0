-- Words of calls: what a checker answers at the end of a text, and `read_trace` of a text that it refuses. Who uses these calls by
-- themselves believes them; no claim about a run rests on them.
use Rattle.std.specs.Prelude.{◌≡◌, ℕ, List, [], ◌∷◌, ◌++◌, Option, Some, None, Result, Ok, Err}
use Rattle.pr_wire.specs.declared.Edge.{Edge}
use Rattle.pr_wire.specs.declared.Frame.{Frame}
use Rattle.pr_wire.specs.declared.WaveFault.TheVariants as fault
use Rattle.pr_wire.specs.declared.checker.CheckFault.{CheckFault}
use Rattle.pr_wire.specs.declared.checker.CheckFault.TheVariants.{BadLine, Unlawful}
use Rattle.pr_wire.specs.declared.text.TraceFault.{TraceFault}
use Rattle.pr_wire.specs.declared.text.TraceFault.TheVariants as trace
use Rattle.pr_wire.specs.Pieces.{Spells}
use Rattle.pr_wire.specs.Table.{fault_of}
use Rattle.pr_wire.specs.TraceText.{IsFirstBad, IsTraceText}

-- the frames, with the one that an edge ends after them, if it ends one
abbrev pub with_frame : List Frame → Option Frame → List Frame
with_frame fs None = fs
with_frame fs (Some f) = fs ++ f ∷ []

-- the answer, by the text and the frames that came by, with the frame that the text's end brings
abbrev pub AnswersText : List ℕ → List Frame → Result (Option Frame) CheckFault → Type 0
AnswersText text frames (Ok last) = (edges : List Edge) × IsTraceText text edges × Spells edges (with_frame frames last)
AnswersText text frames (Err (BadLine n)) = IsFirstBad n text
AnswersText text frames (Err (Unlawful w)) = (edges : List Edge) × IsTraceText text edges × (fault_of edges ≡ Some w)

-- a fault is never lack of memory
abbrev pub IsOwnFault : CheckFault → Type 0
IsOwnFault (BadLine n) = Unit {0}
IsOwnFault (Unlawful fault.NoMemory) = ⊥
IsOwnFault (Unlawful _) = Unit {0}

-- what a fault says of a text
abbrev pub IsTraceFault : List ℕ → TraceFault → Type 0
IsTraceFault text (trace.BadLine n) = IsFirstBad n text
IsTraceFault text trace.NoMemory = Unit {0}
