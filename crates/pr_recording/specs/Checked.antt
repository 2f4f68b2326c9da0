-- Trusted: what `check` answers where it writes JSON: it writes what `decode` writes, and refuses what `check` refuses.
use Rattle.std.specs.Prelude.{ℕ, List, length, Option, Result}
use Rattle.pr_wire.specs.declared.Edge.{Edge}
use Rattle.pr_wire.specs.Table.{fault_of}
use Rattle.pr_capture.specs.declared.format.TraceInput.{TraceInput}
use Rattle.pr_jobs.specs.Check.{trace_limit}
use Rattle.pr_jobs.specs.Report.{Says, edges_checked, refusal}
use Rattle.pr_jobs.specs.declared.fault.CliFault.{CliFault}
use Rattle.pr_recording.specs.declared.wording.Wording.TheVariants.{Json}
use Rattle.pr_recording.specs.Decoded.{Leaves, back_in, stop_at, told_of}

-- the answer, by the text and by what the writer held before and after: the lines are those of `decode`, and the trace
-- is refused for the fault of its input, or else for the first fault of its edges, counted as `check` counts them
pub record AnswersJson (input : TraceInput) (text : List ℕ) (old new : Option (List ℕ))
    (result : Result (Unit {0}) CliFault) : Type 0 where
  pub edges : List Edge
  pub own : Option CliFault
  pub says : Says input text edges own
  pub leaves : Leaves trace_limit (length text) (refusal own (fault_of (edges_checked input.source edges)))
      (told_of Json input (stop_at (back_in edges) own) edges) old new result
