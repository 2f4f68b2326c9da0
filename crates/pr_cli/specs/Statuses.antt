-- Trusted: how the program ends, and its exit statuses.
use Rattle.std.specs.Prelude.{ℕ, ◌&&◌, ◌||◌, Bool, false, nat_lt, not, Option, Some, None, Result, Ok, Err, if◌then◌else◌}
use Rattle.clap.specs.Values.{kind_of}
use Rattle.clap.specs.declared.error.kind.ErrorKind.{ErrorKind}
use Rattle.clap.specs.declared.error.kind.ErrorKind.TheVariants.{DisplayHelp, DisplayVersion}
use Rattle.pr_listing.specs.declared.input.TextFault.{TextFault}
use Rattle.pr_listing.specs.declared.input.TextFault.TheVariants as listing
use Rattle.pr_options.specs.declared.command_line.JobFault.{JobFault}
use Rattle.pr_options.specs.declared.command_line.JobFault.TheVariants as job
use Rattle.pr_programs.specs.declared.fault.BasicFault.{BasicFault}
use Rattle.pr_programs.specs.declared.fault.BasicFault.TheVariants as basic
use Rattle.pr_programs.specs.declared.made.Ran.{Ran as ProgramRun}
use Rattle.pr_programs.specs.declared.made.Ran.TheVariants as program
use Rattle.pr_jobs.specs.declared.fault.CliFault.{CliFault}
use Rattle.pr_jobs.specs.declared.fault.CliFault.TheVariants.{Script, Trace, Wave, Capture, Picture, TooLarge, NoMemory, ReadFailed, WriteFailed}
use Rattle.pr_jobs.specs.declared.characters.ShapesFault.{ShapesFault}
use Rattle.pr_jobs.specs.declared.characters.ShapesFault.TheVariants as shapes
use Rattle.pr_jobs.specs.declared.run.Ending.{Ending}
use Rattle.pr_jobs.specs.declared.run.Ending.TheVariants.{Done, Stopped}
use Rattle.pr_jobs.specs.declared.run.HeldMarks.{HeldMarks}
use Rattle.pr_jobs.specs.declared.run.PagesEnd.{PagesEnd}
use Rattle.pr_jobs.specs.declared.run.RunEnd.{RunEnd}
use Rattle.pr_jobs.specs.declared.run.RunEnd.TheVariants as run
use Rattle.pr_recording.specs.declared.left_out.LeftOut.{LeftOut}
use Rattle.pr_serial.specs.declared.Present.{Present}
use Rattle.pr_cli.specs.declared.jobs.JobEnd.{JobEnd}
use Rattle.pr_cli.specs.declared.jobs.JobEnd.TheVariants.{Ended, Ran, Printed, Heard, Overheard, Reprinted, Listed, Remarked}
use Rattle.pr_cli.specs.declared.statuses.End.{End}
use Rattle.pr_cli.specs.declared.statuses.End.TheVariants as end

-- a job is done, or a BASIC error stopped the run
abbrev pub ending_end : Ending → End
ending_end Done = end.Done
ending_end Stopped = end.Stopped

-- the same with the error, and the statement that it stopped
abbrev pub run_ended : RunEnd → End
run_ended run.Done = end.Done
run_ended (run.Stopped statement stop) = end.StoppedAt statement stop

-- the same of a job with its answer
abbrev pub answer_end : JobEnd → End
answer_end (Ended ending) = ending_end ending
answer_end (Ran ran) = run_ended ran
answer_end (Printed pages) = run_ended pages.run
answer_end (Heard ran heard) = run_ended ran
answer_end (Overheard said) = end.Done
answer_end (Reprinted said) = end.Done
answer_end (Listed odd) = end.Done
answer_end (Remarked odd) = end.Done

-- an answer lacks something that a recording has, where the pages or the bytes of these printers are shown: bytes that are left
-- out; a byte for one of these printers; or marks that they hold
abbrev pub leaves_out : LeftOut → Bool
leaves_out l = nat_lt 0 l.unacknowledged || (nat_lt 0 l.incomplete || (l.has_cut || nat_lt 0 l.early))

abbrev pub hears : (shown heard : Present) → Bool
hears shown heard = (shown.four && heard.four) || (shown.five && heard.five)

abbrev pub holds : HeldMarks → Bool
holds held = nat_lt 0 held.characters || nat_lt 0 held.columns

abbrev pub hold : (shown : Present) → PagesEnd → Bool
hold shown pages = (shown.four && holds pages.four.held) || (shown.five && holds pages.five.held)

abbrev pub lacks : (shown : Present) → JobEnd → Bool
lacks shown (Overheard said) = leaves_out said.left || not said.has_byte
lacks shown (Reprinted said) = leaves_out said.left || (not (hears shown said.present) || hold shown said.end)
lacks shown _ = false

-- the same of a job that is to lack nothing of these printers, if it is
abbrev pub strict_end : (strict : Option Present) → JobEnd → End
strict_end None answer = answer_end answer
strict_end (Some shown) answer = if lacks shown answer then end.Lacking else answer_end answer

-- of a job with its answer or its fault
abbrev pub job_end : (strict : Option Present) → Result JobEnd CliFault → End
job_end strict (Ok answer) = strict_end strict answer
job_end strict (Err fault) = end.Job fault

-- of a job whose script came of the run of a program: an error ended that run, if nothing stopped the job's run before
abbrev pub ended_after : ProgramRun → End → End
ended_after (program.Error error line) end.Done = end.Broken error line
ended_after ran ended = ended

-- help and the version are written; other words that clap refuses ask for nothing
abbrev pub line_end : ErrorKind → End
line_end DisplayHelp = end.Done
line_end DisplayVersion = end.Done
line_end _ = end.Words

-- so do words with a bad value; or memory was refused
abbrev pub refusal_end : JobFault → End
refusal_end (job.Line e) = line_end (kind_of e)
refusal_end job.NoMemory = end.Job NoMemory
refusal_end _ = end.Words

-- 2 when the input is refused, 3 when memory was refused, or a read or a write failed
abbrev pub fault_status : CliFault → ℕ
fault_status (Script fault) = 2
fault_status (Trace fault) = 2
fault_status (Wave fault) = 2
fault_status (Capture fault) = 2
fault_status (Picture fault) = 2
fault_status TooLarge = 2
fault_status NoMemory = 3
fault_status ReadFailed = 3
fault_status WriteFailed = 3

-- 2 when a listing is refused, 3 when memory was refused, or a read failed
abbrev pub text_status : TextFault → ℕ
text_status (listing.Listing fault) = 2
text_status listing.TooLarge = 2
text_status listing.ReadFailed = 3
text_status listing.NoMemory = 3

-- 2 when a program is refused, 3 when memory was refused
abbrev pub basic_status : BasicFault → ℕ
basic_status (basic.Refused row column reason) = 2
basic_status (basic.Listing why) = 2
basic_status (basic.TooManySteps line) = 2
basic_status basic.NoMemory = 3

-- 2 when a file of characters is refused, 3 when memory was refused, or a read failed
abbrev pub characters_status : ShapesFault → ℕ
characters_status (shapes.Characters fault) = 2
characters_status shapes.TooLarge = 2
characters_status shapes.ReadFailed = 3
characters_status shapes.NoMemory = 3

-- the exit status: 0 when what was asked for is written, 1 when a BASIC error stopped the run, or something of a recording is
-- left out that was not to be, 2 when the words are refused
abbrev pub status_of : End → ℕ
status_of end.Done = 0
status_of end.Stopped = 1
status_of (end.StoppedAt statement stop) = 1
status_of (end.Broken error line) = 1
status_of end.Lacking = 1
status_of (end.Job fault) = fault_status fault
status_of (end.Listing fault) = text_status fault
status_of (end.Basic fault) = basic_status fault
status_of (end.Characters fault) = characters_status fault
status_of end.Words = 2
