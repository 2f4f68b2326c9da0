-- What is certain of runs: greater limits of steps change nothing, what is performed comes from the program, and the
-- bytes of strings are counted right.
use Rattle.std.specs.Prelude.{ℕ, zero, suc, ◌≡◌, ◌+◌, ◌++◌, Bool, true, false, IsTrue, List, sum_by}
use Rattle.std.specs.List.{All}
use Rattle.pr_basic.specs.declared.statement.Statement.{Statement as Output}
use Rattle.pr_basic.specs.declared.statement.Statement.TheVariants.{CloseFile, Cmd, OpenFile, Print as Printed, PrintTo}
use Rattle.pr_interpreter.specs.declared.statements.Statement.{Statement}
use Rattle.pr_interpreter.specs.declared.statements.Statement.TheVariants.{Close, Command, Open, Print, PrintFile}
use Rattle.pr_run.specs.declared.ending.Ending.{Ending}
use Rattle.pr_run.specs.declared.ending.Ending.TheVariants.{Break, End, Error, LastLine, OutOfMemory, Refused}
use Rattle.pr_run.specs.declared.ending.Ending.TheVariants.{TooManySteps}
use Rattle.pr_run.specs.declared.performed.Performed.{Performed}
use Rattle.pr_run.specs.declared.place.Place.{Place}
use Rattle.pr_run.specs.declared.programs.Program.{Program}
use Rattle.pr_run.specs.Memory.{string_bytes}
use Rattle.pr_run.specs.Places.{Doing, found_at, number_at}
use Rattle.pr_run.specs.Runs.{run}
use Rattle.pr_run.specs.States.{State, first_state}
use Rattle.pr_run.specs.Steps.{Goes, step}

-- ---- limits of steps

-- the limit is used up
abbrev pub is_limit : Ending → Bool
is_limit (TooManySteps line) = true
is_limit LastLine = false
is_limit (End line) = false
is_limit (Break line) = false
is_limit (Error e line) = false
is_limit (Refused r place) = false
is_limit OutOfMemory = false

-- a run that does not use up its limit is the same within each greater limit
abbrev pub LimitsAgree : Type 0
LimitsAgree = (p : Program) (limit more : ℕ) → is_limit (run limit p).ending ≡ false
    → run (limit + more) p ≡ run limit p

-- within a greater limit a run performs the same, and then perhaps more
abbrev pub LimitsGoOn : Type 0
LimitsGoOn = (p : Program) (limit more : ℕ)
    → (rest : List Performed) × ((run (limit + more) p).performed ≡ (run limit p).performed ++ rest)

-- ---- what is performed

-- a statement of the program performs an output statement of its own kind
abbrev pub is_kind : Statement → Output → Bool
is_kind (Open values) (OpenFile file device second) = true
is_kind (Command file items) (Cmd number line) = true
is_kind (Print items) (Printed line) = true
is_kind (PrintFile file items) (PrintTo number line) = true
is_kind (Close values) (CloseFile file) = true
is_kind s o = false

-- it comes from a statement of its kind at a place of the program, in the line of its number
abbrev pub ComesFrom : Program → Performed → Type 0
ComesFrom p d = (place : Place) × (s : Statement)
    × (found_at p.lines place ≡ Doing s) × (d.line ≡ number_at p.lines place) × IsTrue (is_kind s d.statement)

-- so does each output statement that a run performs
abbrev pub AllComeFrom : Type 0
AllComeFrom = (p : Program) (limit : ℕ) → All (ComesFrom p) (run limit p).performed

-- ---- strings

-- a run of a program comes to a state after so many steps
abbrev pub IsAfter : Program → ℕ → State → Type 0
IsAfter p zero s = s ≡ first_state
IsAfter p (suc n) s = (before : State) × (performed : List Performed)
    × IsAfter p n before × (step p before ≡ Goes s performed)

-- how many bytes the strings have that variables and elements of arrays hold: elements after the last one are still
-- 0 or empty
abbrev pub held_bytes : State → ℕ
held_bytes s = sum_by (λ v. string_bytes v.value) s.variables
    + sum_by (λ a. sum_by string_bytes a.elements) s.arrays.list

-- in each state that a run comes to, exactly these are counted: a run ends before there are too many to count
abbrev pub StringsAreCounted : Type 0
StringsAreCounted = (p : Program) (n : ℕ) (s : State) → IsAfter p n s → s.strings ≡ held_bytes s
