-- Trusted: the place that the explanation of a BASIC error has: the statement at which the error
-- stopped a run, with its line, its device and the cause of the error.
use Rattle.std.specs.Prelude.{◌≡◌, ℕ, suc, ◌+◌, ◌<◌, ◌≤◌, ◌==◌, ◌||◌, Bool, true, false, not, if◌then◌else◌, List, [], ◌∷◌, ◌++◌, length, Option, Some, None}
use Rattle.pr_base.specs.Lines.{lines_of}
use Rattle.pr_basic.specs.declared.statement.Statement.{Statement}
use Rattle.pr_basic.specs.declared.statement.Statement.TheVariants.{OpenFile, Cmd, PrintTo}
use Rattle.pr_basic.specs.Grammar.{AreLines, IsLine, IsScript, without_return}
use Rattle.pr_channels.specs.declared.faults.Stop.{Stop}
use Rattle.pr_channels.specs.declared.faults.Stop.TheVariants.{DeviceNotPresent}
use Rattle.pr_serial.specs.declared.Present.{Present}
use Rattle.pr_explain.specs.ScriptPlaces.{IsLabel}
use Rattle.pr_explain.specs.declared.stops.StopCause.{StopCause}
use Rattle.pr_explain.specs.declared.stops.StopCause.TheVariants.{Files, NoPrinter, Unheard}
use Rattle.pr_explain.specs.declared.stops.StopPlace.{StopPlace}

-- the line of a statement of a script, both counted from 1: there are fewer statements in the lines
-- before it, and at least as many in those lines and the line itself
pub record IsStatementLine (script : List ℕ) (statement : ℕ) (line : List ℕ) (number : ℕ)
    : Type 0 where
  pub before : List (List ℕ)
  pub after : List (List ℕ)
  pub earlier : List Statement
  pub own : List Statement
  pub cut : lines_of script ≡ before ++ line ∷ after
  pub numbered : number ≡ suc (length before)
  pub are_before : AreLines before earlier
  pub is_line : IsLine (without_return line) own
  pub from : length earlier < statement
  pub to : statement ≤ length earlier + length own

-- the device of a statement if it opens the file, or else the device before
abbrev pub opened_by : Statement → (file : ℕ) → Option ℕ → Option ℕ
opened_by (OpenFile f device second) file before = if f == file then Some device else before
opened_by _ file before = before

-- the device of the last OPEN of a file, or else the device before
abbrev pub opened : (file : ℕ) → List Statement → Option ℕ → Option ℕ
opened file [] before = before
opened file (s ∷ ss) before = opened file ss (opened_by s file before)

-- the device of a statement, after other statements: that of an OPEN, or of the last OPEN of the
-- file that CMD or PRINT# names
abbrev pub device_of : List Statement → Statement → Option ℕ
device_of before (OpenFile file device second) = Some device
device_of before (Cmd file line) = opened file before None
device_of before (PrintTo file line) = opened file before None
device_of before _ = None

-- a device is a printer that is not present
abbrev pub is_absent : Present → Option ℕ → Bool
is_absent present None = false
is_absent present (Some device) =
    if device == 4 then not present.four else (if device == 5 then not present.five else true)

-- the cause of an error at a statement with this device
abbrev pub cause_of : Stop → Present → Option ℕ → StopCause
cause_of DeviceNotPresent present device =
    if present.four || present.five then Unheard (is_absent present device) else NoPrinter
cause_of _ present device = Files

-- the place of an error at a statement of a script
pub record IsErrorPlace (script : List ℕ) (stop : Stop) (statement : ℕ) (present : Present)
    (p : StopPlace) : Type 0 where
  pub before : List Statement
  pub at : Statement
  pub after : List Statement
  pub line : List ℕ
  pub is_script : IsScript script (before ++ at ∷ after)
  pub numbered : statement ≡ suc (length before)
  pub is_statement : p.statement ≡ statement
  pub is_line : IsStatementLine script statement line p.line
  pub labelled : IsLabel line p.basic_line
  pub device : p.device ≡ device_of before at
  pub cause : p.cause ≡ cause_of stop present p.device

-- an error at a statement has its place; where the script has no such statement there is none
abbrev pub IsStopPlace :
    (script : List ℕ) → Stop → (statement : ℕ) → Present → Option StopPlace → Type 0
IsStopPlace script stop statement present None =
    (statements : List Statement) → IsScript script statements
    → 0 < statement → statement ≤ length statements → ⊥
IsStopPlace script stop statement present (Some p) = IsErrorPlace script stop statement present p
