-- Trusted: a run of a program: its steps, as far as a limit.
use Rattle.std.specs.Prelude.{ℕ, zero, suc, List, [], ◌++◌, if◌then◌else◌, Option, Some, None, Result, Ok}
use Rattle.std.specs.List.{slice_get}
use Rattle.pr_interpreter.specs.declared.fault.ProgramFault.{ProgramFault}
use Rattle.pr_interpreter.specs.declared.program.ProgramLine.{ProgramLine}
use Rattle.pr_interpreter.specs.Lines.{program_lines}
use Rattle.pr_interpreter.specs.Programs.{or_stop, program}
use Rattle.pr_run.specs.declared.ending.Ending.{Ending}
use Rattle.pr_run.specs.declared.ending.Ending.TheVariants.{LastLine, Refused, TooManySteps}
use Rattle.pr_run.specs.declared.ending.Refusal.TheVariants.{FullMemory}
use Rattle.pr_run.specs.declared.outcome.Outcome.{Outcome}
use Rattle.pr_run.specs.declared.performed.Performed.{Performed}
use Rattle.pr_run.specs.Data.{data_of}
use Rattle.pr_run.specs.declared.programs.Program.{Program}
use Rattle.pr_run.specs.Memory.{fits}
use Rattle.pr_run.specs.States.{State, first_state}
use Rattle.pr_run.specs.Steps.{Ends, Goes, Turn, step}

-- the program that a text is
unfoldable pub program_of : List ℕ → Result Program ProgramFault
program_of text =
    or_stop (program text) (λ lines. or_stop (program_lines text)
    (λ rows. Ok (record { text = text; lines = lines; items = data_of text rows })))

-- what a run performs, how it ends, and the line of the first POKE that it leaves out
abbrev pub outcome : List Performed → Ending → Option ℕ → Outcome
outcome performed ending skipped = record { performed = performed; ending = ending; skipped_poke = skipped }

-- what comes after a turn in a state
abbrev pub after_turn : State → Turn → (State → Outcome) → Outcome
after_turn s (Ends performed ending) more = outcome performed ending s.skipped_poke
after_turn s (Goes t performed) more = let rest = more t in record rest { performed = performed ++ rest.performed }

-- how a run ends that has no step left: in a line the limit is used up; after the last line the run is over
abbrev pub ending_in : Option ProgramLine → Ending
ending_in (Some l) = TooManySteps l.number
ending_in None = LastLine

-- a run from a state on, of at most so many steps
unfoldable pub run_from : Program → ℕ → State → Outcome
run_from p zero s = outcome [] (ending_in (slice_get p.lines s.place.line)) s.skipped_poke
run_from p (suc n) s = after_turn s (step p s) (λ t. run_from p n t)

-- a run of a program, of at most so many steps; none if the machine may not have the memory for the program itself
unfoldable pub run : ℕ → Program → Outcome
run limit p =
    if fits p first_state then run_from p limit first_state else outcome [] (Refused FullMemory 0) None
