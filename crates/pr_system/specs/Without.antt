-- Trusted: a list of statements without one device, and what is the same without it.
use Rattle.std.specs.Prelude.{◌≡◌, ◌≢◌, ⊤, ℕ, Bool, false, ◌==◌, Option, Some, None, List, [], ◌∷◌, ◌++◌, if◌then◌else◌}
use Rattle.pr_serial.specs.declared.Present.{Present}
use Rattle.pr_serial.specs.Bus.{DelayNumbers}
use Rattle.pr_channels.specs.declared.file.File.{File}
use Rattle.pr_channels.specs.declared.faults.Stop.{Stop}
use Rattle.pr_channels.specs.Files.{Files, file_at, without_file, open_stop}
use Rattle.pr_basic.specs.declared.statement.Statement.{Statement}
use Rattle.pr_basic.specs.declared.statement.Statement.TheVariants.{OpenFile, Cmd, PrintTo, Print, CloseFile}
use Rattle.pr_basic.specs.declared.session.StatusMode.{StatusMode}
use Rattle.pr_basic.specs.Runs.{run_of}
use Rattle.pr_system.specs.declared.outcome.Outcome.{Outcome}
use Rattle.pr_system.specs.Headline.{heard_in, IsOutcome}
use Rattle.pr_system.specs.TrueTrace.{IsTrueTrace}

-- the files after an OPEN; one that a stop refuses opens nothing
abbrev pub files_opened : Option Stop → Files → File → Files
files_opened None files file = files ++ file ∷ []
files_opened (Some stop) files file = files

-- the files after a statement
abbrev pub files_after : Files → Statement → Files
files_after files (OpenFile file device second) =
    let opened : File = record { number = file; device = device; second = second } in
    files_opened (open_stop files file) files opened
files_after files (CloseFile file) = without_file file files
files_after files statement = files

-- an open file is on the device
abbrev pub is_on : ℕ → Option File → Bool
is_on device None = false
is_on device (Some file) = file.device == device

-- a statement is left out with the device: it opens a file on the device, or names a file that is on it at that point
abbrev pub is_left_out : ℕ → Files → Statement → Bool
is_left_out device files (OpenFile file on second) = on == device
is_left_out device files (Cmd file line) = is_on device (file_at files file)
is_left_out device files (PrintTo file line) = is_on device (file_at files file)
is_left_out device files (CloseFile file) = is_on device (file_at files file)
is_left_out device files statement = false

-- the statements without the device, where these files are open
abbrev pub without_from : ℕ → Files → List Statement → List Statement
without_from device files [] = []
without_from device files (statement ∷ statements) =
    let rest = without_from device (files_after files statement) statements in
    if is_left_out device files statement then rest else statement ∷ rest

-- the statements without the device
abbrev pub without : ℕ → List Statement → List Statement
without device statements = without_from device [] statements

-- neither CMD nor PRINT
abbrev pub IsAddressed : Statement → Type 0
IsAddressed (Cmd file line) = ⊥
IsAddressed (Print line) = ⊥
IsAddressed statement = ⊤

-- neither CMD nor PRINT is among the statements
abbrev pub AreAddressed : List Statement → Type 0
AreAddressed [] = ⊤
AreAddressed (statement ∷ statements) = IsAddressed statement × AreAddressed statements

-- a run has no stop
abbrev pub GoesOn : StatusMode → Present → List Statement → Type 0
GoesOn mode present statements = (run_of mode present statements).stop ≡ None

-- the other list has no stop either, and every device except the one left out hears the same
pub record IsSpared (mode : StatusMode) (present : Present) (left_out : ℕ)
    (statements rest : List Statement) : Type 0 where
  pub goes_on : GoesOn mode present rest
  pub same : (device : ℕ) → device ≢ left_out →
      heard_in mode present rest device ≡ heard_in mode present statements device

-- the paper of each printer except the one left out is the same
abbrev pub KeepsPapers : ℕ → Outcome → Outcome → Type 0
KeepsPapers left_out all rest =
    (4 ≢ left_out → rest.paper4 ≡ all.paper4) × (5 ≢ left_out → rest.paper5 ≡ all.paper5)

-- a run with these delay numbers: the headline and the true trace
pub record IsGiven (mode : StatusMode) (present : Present) (delays : DelayNumbers)
    (statements : List Statement) (outcome : Outcome) : Type 0 where
  pub headline : IsOutcome mode present statements outcome
  pub true_trace : IsTrueTrace mode present delays statements outcome.trace
