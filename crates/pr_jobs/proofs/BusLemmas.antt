-- What `bus` answers, from what its run gives.
use Rattle.std.proofs.Common.{◌≡◌, ◌≤◌, ℕ, Option, Some, None, Result, Ok, Err, IfSome, List, length, inr, ap, subst, ◌∙◌}
use Rattle.std.specs.Io.KnownBytes.{Appends}
use Rattle.pr_capture.specs.declared.format.OutputFormat.{OutputFormat}
use Rattle.pr_basic.specs.declared.statement.Statement.{Statement}
use Rattle.pr_basic.specs.Grammar.{IsScript}
use Rattle.pr_system.specs.RunningState.{begun, trace_so_far}
use Rattle.pr_system.specs.StepByStep.{stepped_through}
use Rattle.pr_system.specs.Laws.{StepsMakeTheRun, StepsMakeTheTrace}
use Rattle.pr_bus.specs.DelaysLeft.{numbers_left}
use Rattle.pr_jobs.specs.Bus.{AnswersBusAs, bus_text, trace_in}
use Rattle.pr_jobs.specs.Pages.{script_limit}
use Rattle.pr_jobs.specs.Runs.{run_end}
use Rattle.pr_jobs.specs.Traced.{GivesTrace}
use Rattle.pr_input.specs.PartlyWritten.{AppendsFront}
use Rattle.pr_jobs.specs.declared.run.RunEnd.{RunEnd}
use Rattle.pr_jobs.specs.declared.run.Start.{Start}
use Rattle.pr_jobs.specs.declared.fault.CliFault.{CliFault}
use Rattle.pr_jobs.specs.declared.fault.CliFault.TheVariants.{Script, Trace, Wave, Capture, Picture, TooLarge, NoMemory, ReadFailed, WriteFailed}

-- what holds of the bytes that were read, where they are known
pub of_known : (known : Option (List ℕ)) (read : List ℕ) (P : List ℕ → Type 0) → IfSome known (λ bytes. read ≡ bytes) → P read → IfSome known P
of_known None read P is h = tt
of_known (Some bytes) read P is h = subst P is h

-- the answer for a script that was read
pub bus_answered : StepsMakeTheRun → StepsMakeTheTrace → (start : Start) (format : OutputFormat) (script : List ℕ) (statements : List Statement) (old new : Option (List ℕ)) (r : Result RunEnd CliFault)
    → length script ≤ script_limit → IsScript script statements → GivesTrace format (stepped_through (begun start.mode start.present (numbers_left start.delays)) statements) old new r → AnswersBusAs start format script old new r
bus_answered run trace start format script statements old new r short is gives = by r gives
  where
    text : trace_in format (trace_so_far (stepped_through (begun start.mode start.present (numbers_left start.delays)) statements)) ≡ bus_text start format statements
    text = ap (trace_in format) (trace start.mode start.present (numbers_left start.delays) statements)

    front : AppendsFront old new (trace_in format (trace_so_far (stepped_through (begun start.mode start.present (numbers_left start.delays)) statements))) → AppendsFront old new (bus_text start format statements)
    front h = let P : List ℕ → Type 0 = λ t. AppendsFront old new t in subst P text h

    by : (r : Result RunEnd CliFault) → GivesTrace format (stepped_through (begun start.mode start.present (numbers_left start.delays)) statements) old new r → AnswersBusAs start format script old new r
    by (Ok ending) g =
        let P : List ℕ → Type 0 = λ t. Appends old new t in
        (statements, short, is, g.ending ∙ ap run_end (run start.mode start.present (numbers_left start.delays) statements).stop, subst P text g.text)
    by (Err (Script x)) g = absurd g.text
    by (Err (Trace x)) g = absurd g.text
    by (Err (Wave x)) g = absurd g.text
    by (Err (Capture x)) g = absurd g.text
    by (Err (Picture x)) g = absurd g.text
    by (Err TooLarge) g = absurd g.text
    by (Err NoMemory) g = inr (statements, short, is, front g.text)
    by (Err ReadFailed) g = absurd g.text
    by (Err WriteFailed) g = (statements, short, is, front g.text)
