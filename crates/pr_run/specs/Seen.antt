-- Linking words: a run as the machine keeps it, for the definition. No reader needs to believe them.
use Rattle.std.specs.Prelude.{ℕ, ◌≡◌, ◌⊎◌, ◌<◌, ◌+◌, Bool, true, false, ◌||◌, nat_lt, Option, Some, None, List, [], ◌∷◌}
use Rattle.std.specs.Prelude.{◌++◌, length, reverse, take, Result, Ok, Err}
use Rattle.std.specs.Option.{option_to_list}
use Rattle.pr_basic.specs.declared.statement.Statement.{Statement}
use Rattle.pr_interpreter.specs.declared.names.Name.{Name}
use Rattle.pr_interpreter.specs.declared.values.BasicError.{BasicError}
use Rattle.pr_run.specs.declared.ending.Ending.{Ending}
use Rattle.pr_run.specs.declared.ending.Ending.TheVariants.{Error, OutOfMemory, Refused}
use Rattle.pr_run.specs.declared.ending.Refusal.TheVariants.{Device, SecondAddress}
use Rattle.pr_run.specs.declared.opened.Loop.{Loop}
use Rattle.pr_run.specs.declared.opened.Open.{Open}
use Rattle.pr_run.specs.declared.opened.Open.TheVariants.{Looping}
use Rattle.pr_run.specs.declared.place.Place.{Place}
use Rattle.pr_run.specs.declared.outcome.Outcome.{Outcome}
use Rattle.pr_run.specs.declared.performed.Performed.{Performed}
use Rattle.pr_run.specs.declared.programs.Program.{Program}
use Rattle.pr_run.specs.declared.state.Run.{Run}
use Rattle.pr_run.specs.declared.steps.Done.{Done}
use Rattle.pr_run.specs.Jumps.{Passed, Again, Over}
use Rattle.pr_run.specs.Opened.{caller_of, loop_of}
use Rattle.pr_run.specs.Outputs.{Output}
use Rattle.pr_run.specs.Runs.{outcome, run_from}
use Rattle.pr_run.specs.States.{State}
use Rattle.pr_run.specs.Steps.{Ends, Goes, Turn}
use Rattle.pr_run.specs.Uses.{Valued, Worked}

-- the state of a run: the machine keeps what was opened last at the end
abbrev pub state_of : Run → State
state_of r = record {
  place = r.place;
  variables = r.variables.items;
  arrays = r.arrays;
  functions = r.functions.items;
  strings = r.strings;
  opened = reverse r.opened.items;
  items_read = r.items_read;
  files = r.files.items;
  channel = r.channel;
  at_left = r.at_left;
  has_sent = r.has_sent;
  skipped_poke = r.skipped_poke;
}

-- a value and a run
abbrev pub gives : {A : Type 0} → A → Run → Worked (Valued A)
gives a r = Ok (record { value = a; after = state_of r })

-- whether a loop is over, and a run
abbrev pub passes : Bool → Run → Worked Passed
passes true r = Ok (Over (state_of r))
passes false r = Ok (Again (state_of r))

-- an output statement, its error if it has one, and a run
abbrev pub puts : Statement × Option BasicError → Run → Worked Output
puts o r = Ok (record { statement = o.0; error = o.1; after = state_of r })

-- memory ran out, or the run ends as a definition says
abbrev pub EndsAs : {A : Type 0} → Ending → Worked A → Type 0
EndsAs ending wanted = (ending ≡ OutOfMemory) ⊎ (wanted ≡ Err ending)

-- a loop that is found, and what was open before it
abbrev pub FindsLoop : Option Name → List Open → ℕ × Loop → Type 0
FindsLoop wanted opened r =
    (r.0 < length opened)
    × (loop_of wanted (reverse opened) ≡ Some (record { current = r.1; before = reverse (take r.0 opened) }))
    × (reverse (take (r.0 + 1) opened) ≡ Looping r.1 ∷ reverse (take r.0 opened))

-- where the last GOSUB goes on, and what was open before it
abbrev pub FindsCaller : List Open → List Open → Place → Type 0
FindsCaller old new place = caller_of (reverse old) ≡ Some (record { back = place; before = reverse new })

-- a device's number is taken or refused
abbrev pub IsDevice : ℕ → ℕ → Result ℕ Ending → Type 0
IsDevice number place (Ok device) = (device ≡ number) × ((nat_lt number 4 || nat_lt 30 number) ≡ false)
IsDevice number place (Err e) = ((nat_lt number 4 || nat_lt 30 number) ≡ true) × (e ≡ Refused (Device number) place)

-- so is a secondary address
abbrev pub IsSecond : ℕ → ℕ → Result ℕ Ending → Type 0
IsSecond number place (Ok second) = (second ≡ number) × (nat_lt 15 number ≡ false)
IsSecond number place (Err e) = (nat_lt 15 number ≡ true) × (e ≡ Refused (SecondAddress number) place)

-- ---- steps

abbrev pub nothing : Done
nothing = record { performed = None; ending = None }

abbrev pub ended : Ending → Done
ended ending = record { performed = None; ending = Some ending }

abbrev pub error_ending : ℕ → Option BasicError → Option Ending
error_ending line None = None
error_ending line (Some e) = Some (Error e line)

abbrev pub output_done : ℕ → Statement × Option BasicError → Done
output_done line o =
    record { performed = Some (record { line = line; statement = o.0 }); ending = error_ending line o.1 }

-- the turn that performs something and leaves a run
abbrev pub turned_by : List Performed → Option Ending → State → Turn
turned_by performed None s = Goes s performed
turned_by performed (Some ending) s = Ends performed ending

abbrev pub turned : Done → Run → Turn
turned d r = turned_by (option_to_list d.performed) d.ending (state_of r)

-- memory ran out, or the run ends without performing anything
abbrev pub TurnEndsAs : Ending → Turn → Type 0
TurnEndsAs ending wanted = (ending ≡ OutOfMemory) ⊎ (wanted ≡ Ends [] ending)

-- ---- runs

-- what was performed comes before what else is
abbrev pub joined : List Performed → Outcome → Outcome
joined before o = record o { performed = before ++ o.performed }

-- a run goes on with so many steps, or has ended in a step from an old one
abbrev pub rest_of : Program → ℕ → Run → List Performed → Option Ending → Run → Outcome
rest_of p n old performed None new = joined performed (run_from p n (state_of new))
rest_of p n old performed (Some ending) new = outcome performed ending old.skipped_poke

-- what was performed and a run lead on as others did a step before
abbrev pub LeadsOn : Program → List Performed → Run → List Performed → Run → Option Ending → Type 0
LeadsOn p before old after new ending =
    (n : ℕ) → joined before (run_from p (n + 1) (state_of old)) ≡ rest_of p n old after ending new
