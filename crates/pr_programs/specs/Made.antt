-- Trusted: what comes of the text of a program that is run: a script, and how the run ended; or why there is no script.
use Rattle.std.specs.Prelude.{ℕ, List, Option, Result, Ok, Err}
use Rattle.pr_interpreter.specs.declared.fault.ProgramFault.{ProgramFault}
use Rattle.pr_interpreter.specs.declared.fault.ProgramFault.TheVariants as program
use Rattle.pr_interpreter.specs.Lines.{column}
use Rattle.pr_programs.specs.declared.fault.BasicFault.{BasicFault}
use Rattle.pr_programs.specs.declared.fault.BasicFault.TheVariants.{NoMemory, Refused, TooManySteps}
use Rattle.pr_programs.specs.declared.fault.Reason.{Reason}
use Rattle.pr_programs.specs.declared.fault.Reason.TheVariants as reason
use Rattle.pr_programs.specs.declared.made.Made.{Made}
use Rattle.pr_programs.specs.declared.made.Ran.{Ran}
use Rattle.pr_programs.specs.declared.made.Ran.TheVariants as ran
use Rattle.pr_programs.specs.Rows.{row}
use Rattle.pr_programs.specs.Scripts.{script_text}
use Rattle.pr_programs.specs.Typed.{Typed, place_of, typed}
use Rattle.pr_run.specs.declared.ending.Ending.{Ending}
use Rattle.pr_run.specs.declared.ending.Ending.TheVariants as ending
use Rattle.pr_run.specs.declared.ending.Refusal.{Refusal}
use Rattle.pr_run.specs.declared.ending.Refusal.TheVariants as refusal
use Rattle.pr_run.specs.declared.outcome.Outcome.{Outcome}
use Rattle.pr_run.specs.declared.programs.Program.{Program}
use Rattle.pr_run.specs.Runs.{program_of, run}

-- ---- why there is no script

-- what is refused at a place of the typed text
abbrev pub refused_at : List ℕ → ℕ → Reason → BasicFault
refused_at text place why = Refused (row text place) (column text place) why

-- what is refused at a place of the program that the text makes: it is where the text makes that
abbrev pub refused_in : List ℕ → ℕ → Reason → BasicFault
refused_in text made why = refused_at text (place_of text made) why

-- a text that is no program; what no statement can have is refused by the run that comes to it, so the last two do not occur
abbrev pub unread : List ℕ → ProgramFault → BasicFault
unread text program.OutOfMemory = NoMemory
unread text (program.NoLineNumber made) = refused_in text made reason.NoLineNumber
unread text (program.LargeLineNumber made) = refused_in text made reason.LargeLineNumber
unread text (program.NoExpression made) = refused_in text made reason.Syntax
unread text (program.NoStatement made) = refused_in text made reason.Syntax
unread text (program.NotTaken made) = refused_in text made reason.NotTaken

-- why a statement is not run
abbrev pub reason_of : Refusal → Reason
reason_of refusal.NotCertain = reason.NotCertain
reason_of refusal.NotTaken = reason.NotTaken
reason_of (refusal.Poke address) = reason.Poke
reason_of (refusal.Device number) = reason.Device
reason_of (refusal.SecondAddress number) = reason.SecondAddress
reason_of refusal.FileName = reason.FileName
reason_of refusal.LongList = reason.LongList
reason_of refusal.OpenFiles = reason.OpenFiles
reason_of refusal.FullStack = reason.FullStack
reason_of refusal.FullMemory = reason.FullMemory

-- ---- what comes of a run

-- how a run ended of which there is a script: what is performed before an error is kept, what is performed before a
-- refusal is not
abbrev pub ran_to : List ℕ → Ending → Result Ran BasicFault
ran_to text ending.LastLine = Ok ran.Ended
ran_to text (ending.End line) = Ok ran.Ended
ran_to text (ending.Break line) = Ok (ran.Break line)
ran_to text (ending.Error error line) = Ok (ran.Error error line)
ran_to text (ending.Refused why made) = Err (refused_in text made (reason_of why))
ran_to text (ending.TooManySteps line) = Err (TooManySteps line)
ran_to text ending.OutOfMemory = Err NoMemory

abbrev pub with_script : (script : List ℕ) → (skipped : Option ℕ) → Result Ran BasicFault → Result Made BasicFault
with_script script skipped (Ok ended) = Ok (record { text = script; ran = ended; skipped_poke = skipped })
with_script script skipped (Err fault) = Err fault

-- what comes of a run of the program of a text
abbrev pub made_of : List ℕ → Outcome → Result Made BasicFault
made_of text outcome = with_script (script_text outcome.performed) outcome.skipped_poke (ran_to text outcome.ending)

abbrev pub made_by : (steps : ℕ) → List ℕ → Result Program ProgramFault → Result Made BasicFault
made_by steps text (Ok program) = made_of text (run steps program)
made_by steps text (Err fault) = Err (unread text fault)

abbrev pub made_from : (steps : ℕ) → List ℕ → Typed → Result Made BasicFault
made_from steps text (Ok bytes) = made_by steps text (program_of bytes)
made_from steps text (Err (place, why)) = Err (refused_at text place why)

-- what comes of the text of a program that is run for so many steps at most
unfoldable pub made : (steps : ℕ) → List ℕ → Result Made BasicFault
made steps text = made_from steps text (typed text)
