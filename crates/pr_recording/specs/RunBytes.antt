-- Trusted: what `pages` answers for a script where the bytes that a printer hears in its run are wanted, and what it
-- leaves in the writer.
use Rattle.std.specs.Prelude.{◌≡◌, ℕ, ◌<◌, ◌≤◌, List, [], length, Option, Result, Ok, Err, if◌then◌else◌}
use Rattle.std.specs.Io.KnownBytes.{Appends, Keeps}
use Rattle.pr_page.specs.declared.input.Input.{Input}
use Rattle.pr_serial.specs.Heard.{is_present}
use Rattle.pr_receiver.specs.Heard.{heard_of}
use Rattle.pr_bus.specs.Answers.{answered_frames}
use Rattle.pr_basic.specs.declared.statement.Statement.{Statement}
use Rattle.pr_basic.specs.Grammar.{IsScript}
use Rattle.pr_basic.specs.Faults.{IsFirstFault}
use Rattle.pr_basic.specs.Runs.{run_of, items_sent}
use Rattle.pr_render.specs.declared.format.Device.{Device}
use Rattle.pr_input.specs.PartlyWritten.{AppendsFront}
use Rattle.pr_jobs.specs.Pages.{script_limit}
use Rattle.pr_jobs.specs.Runs.{run_end}
use Rattle.pr_jobs.specs.declared.run.RunEnd.{RunEnd}
use Rattle.pr_jobs.specs.declared.run.Start.{Start}
use Rattle.pr_jobs.specs.declared.fault.CliFault.{CliFault}
use Rattle.pr_jobs.specs.declared.fault.CliFault.TheVariants.{Script, Trace, Wave, Capture, Picture, TooLarge, NoMemory, ReadFailed, WriteFailed}
use Rattle.pr_recording.specs.declared.byte_log.Heard.{Heard}
use Rattle.pr_recording.specs.Bytes.{bytes_of, heard_with, number_of}

-- what a printer hears in a run: of the frames of what the run sends and of what is answered, which its trace spells;
-- an absent printer hears nothing
abbrev pub heard_in_run : Start → Device → List Statement → List Input
heard_in_run start device statements =
    if is_present start.present (number_of device)
    then heard_of (number_of device) (answered_frames start.present (items_sent start.mode start.present statements))
    else []

-- the answer, by the script and by what the writer held before and after
abbrev pub AnswersRunBytes :
    Start → Device → List ℕ → Option (List ℕ) → Option (List ℕ) → Result (RunEnd × Heard) CliFault → Type 0
AnswersRunBytes start device script old new (Ok answer) =
    (statements : List Statement) × (length script ≤ script_limit) × IsScript script statements
    × (answer.0 ≡ run_end (run_of start.mode start.present statements).stop)
    × (answer.1 ≡ heard_with (heard_in_run start device statements))
    × Appends old new (bytes_of (heard_in_run start device statements))
AnswersRunBytes start device script old new (Err (Script fault)) =
    (length script ≤ script_limit) × IsFirstFault script fault × Keeps old new
AnswersRunBytes start device script old new (Err (Trace fault)) = ⊥
AnswersRunBytes start device script old new (Err (Wave fault)) = ⊥
AnswersRunBytes start device script old new (Err (Capture fault)) = ⊥
AnswersRunBytes start device script old new (Err (Picture fault)) = ⊥
AnswersRunBytes start device script old new (Err TooLarge) = (script_limit < length script) × Keeps old new
AnswersRunBytes start device script old new (Err NoMemory) = Keeps old new
AnswersRunBytes start device script old new (Err ReadFailed) = Keeps old new
AnswersRunBytes start device script old new (Err WriteFailed) =
    (statements : List Statement) × (length script ≤ script_limit) × IsScript script statements
    × AppendsFront old new (bytes_of (heard_in_run start device statements))
