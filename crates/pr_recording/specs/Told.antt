-- Trusted: what `tell_input` answers for a recording of at most `limit` bytes, in lines or in JSON, checked or not, and
-- what it leaves in the reader and in the writer.
use Rattle.std.specs.Prelude.{◌≡◌, ℕ, Bool, true, false, List, length, Option, None, Result, IfOk}
use Rattle.pr_wire.specs.declared.Edge.{Edge}
use Rattle.pr_wire.specs.declared.WaveFault.{WaveFault}
use Rattle.pr_wire.specs.Table.{fault_of}
use Rattle.pr_capture.specs.declared.format.InputFormat.{InputFormat}
use Rattle.pr_capture.specs.declared.format.TraceInput.{TraceInput}
use Rattle.pr_decode.specs.Readings.{readings_of}
use Rattle.pr_report.specs.Oddities.{oddities_of}
use Rattle.pr_report.specs.declared.oddities.Oddities.{Oddities}
use Rattle.pr_report.specs.declared.report.Report.TheVariants.{Story}
use Rattle.pr_jobs.specs.Report.{IsReportFault, Says, edges_checked, refusal}
use Rattle.pr_jobs.specs.Report as report
use Rattle.pr_jobs.specs.declared.fault.CliFault.{CliFault}
use Rattle.pr_recording.specs.declared.wording.Wording.{Wording}
use Rattle.pr_recording.specs.Decoded.{IsDecodeFault, Leaves, ReadsAll, back_in, stop_at, told_of, without_odd}

-- why a recording is refused: where it is checked, for a fault of its own or else for the first fault of its edges, as
-- `check` refuses it; else for why it stops, as `decode` does
abbrev pub refused_by : (checked : Bool) → (stop own : Option CliFault) → Option WaveFault → Option CliFault
refused_by true stop own fault = refusal own fault
refused_by false stop own fault = stop

-- the same, by its format and its edges
abbrev pub refused_for : (checked : Bool) → InputFormat → List Edge → (own : Option CliFault) → Option CliFault
refused_for checked source edges own =
    refused_by checked (stop_at (back_in edges) own) own (fault_of (edges_checked source edges))

-- the answer, by the limit, by the text, and by what the writer held before and after: the lines are those of `decode`,
-- and where nothing stops it the answer says what is odd
pub record AnswersTold (limit : ℕ) (w : Wording) (checked : Bool) (input : TraceInput) (text : List ℕ)
    (old new : Option (List ℕ)) (result : Result Oddities CliFault) : Type 0 where
  pub edges : List Edge
  pub own : Option CliFault
  pub says : Says input text edges own
  pub leaves : Leaves limit (length text) (refused_for checked input.source edges own)
      (told_of w input (stop_at (back_in edges) own) edges) old new (without_odd result)
  pub odd : stop_at (back_in edges) own ≡ None → IfOk result (λ odd. odd ≡ oddities_of edges (readings_of edges))

-- how far the input has been read with this answer
abbrev pub HasReadTo : (checked : Bool) → Option (List ℕ) → Result Oddities CliFault → Type 0
HasReadTo true left result = report.ReadsAll Story left (without_odd result)
HasReadTo false left result = ReadsAll left result

-- a fault of a recording that is checked or not
abbrev pub IsRefusal : (checked : Bool) → CliFault → Type 0
IsRefusal true fault = IsReportFault fault
IsRefusal false fault = IsDecodeFault fault
