-- Trusted: what `pages` answers for a script, and what it leaves in the writer, in each format and with characters of some
-- shapes.
use Rattle.std.specs.Prelude.{◌≡◌, ℕ, ◌<◌, ◌≤◌, List, length, Option, Some, None, Result, Ok, Err}
use Rattle.std.specs.Io.KnownBytes.{Appends, IsAtEnd, Keeps}
use Rattle.pr_dots.specs.declared.character_sets.Shapes.{Shapes}
use Rattle.pr_basic.specs.declared.fault.ScriptFault.TheVariants as script
use Rattle.pr_basic.specs.declared.statement.Statement.{Statement}
use Rattle.pr_basic.specs.Grammar.{IsScript}
use Rattle.pr_basic.specs.Faults.{IsFirstFault}
use Rattle.pr_system.specs.declared.outcome.Outcome.{Outcome}
use Rattle.pr_system.specs.Headline.{IsOutcome}
use Rattle.pr_jobs.specs.Formats.{text_in}
use Rattle.pr_input.specs.PartlyWritten.{AppendsFront}
use Rattle.pr_render.specs.declared.format.Format.{Format}
use Rattle.pr_render.specs.declared.format.Format.TheVariants as format
use Rattle.pr_jobs.specs.declared.fault.PictureFault.{PictureFault}
use Rattle.pr_jobs.specs.declared.run.Ending.{Ending}
use Rattle.pr_jobs.specs.declared.run.PagesEnd.{PagesEnd}
use Rattle.pr_jobs.specs.declared.run.Start.{Start}
use Rattle.pr_jobs.specs.Runs.{ending_of, pages_end}
use Rattle.pr_jobs.specs.declared.fault.CliFault.{CliFault}
use Rattle.pr_jobs.specs.declared.fault.CliFault.TheVariants.{Script, Trace, Wave, Capture, Picture, TooLarge, NoMemory, ReadFailed, WriteFailed}

-- the most bytes of a script
abbrev pub script_limit : ℕ
script_limit = 16777216

-- the text of the pages of a script: the script has these statements, and their run gives this outcome
pub record IsTextOf (shapes : Shapes) (start : Start) (format : Format) (script : List ℕ) (outcome : Outcome)
    (text : List ℕ) : Type 0 where
  pub statements : List Statement
  pub is_script : IsScript script statements
  pub is_outcome : IsOutcome start.mode start.present statements outcome
  pub is_text : text_in shapes format start.present outcome ≡ Ok text

-- a script's pages can not be shown: it is one of these statements, whose run gives this outcome, and this format has no such picture of it
pub record IsUnshown (shapes : Shapes) (start : Start) (format : Format) (script : List ℕ) (fault : PictureFault)
    : Type 0 where
  pub outcome : Outcome
  pub statements : List Statement
  pub is_script : IsScript script statements
  pub is_outcome : IsOutcome start.mode start.present statements outcome
  pub is_unshown : text_in shapes format start.present outcome ≡ Err fault

-- the fault with which a script is refused, and what that leaves in the writer
abbrev pub RefusesPages : Shapes → Start → Format → List ℕ → Option (List ℕ) → Option (List ℕ) → CliFault → Type 0
RefusesPages shapes start format script old new (Script fault) =
    (length script ≤ script_limit) × IsFirstFault script fault × Keeps old new
RefusesPages shapes start format script old new (Trace fault) = ⊥
RefusesPages shapes start format script old new (Wave fault) = ⊥
RefusesPages shapes start format script old new (Capture fault) = ⊥
RefusesPages shapes start format script old new (Picture fault) =
    (length script ≤ script_limit) × IsUnshown shapes start format script fault × Keeps old new
RefusesPages shapes start format script old new TooLarge = (script_limit < length script) × Keeps old new
RefusesPages shapes start format script old new NoMemory = Keeps old new
RefusesPages shapes start format script old new ReadFailed = Keeps old new
RefusesPages shapes start format script old new WriteFailed =
    (outcome : Outcome) × (text : List ℕ)
    × (length script ≤ script_limit) × IsTextOf shapes start format script outcome text × AppendsFront old new text

-- the answer, by the script and by what the writer held before and after, where this is said of an outcome
abbrev pub SaysPages : {E : Type 0} → (said : Outcome → E)
    → Shapes → Start → Format → List ℕ → Option (List ℕ) → Option (List ℕ) → Result E CliFault → Type 0
SaysPages said shapes start format script old new (Ok end) =
    (outcome : Outcome) × (text : List ℕ)
    × (length script ≤ script_limit) × IsTextOf shapes start format script outcome text
    × (end ≡ said outcome) × Appends old new text
SaysPages said shapes start format script old new (Err fault) = RefusesPages shapes start format script old new fault

-- that with whether an error stopped the run
abbrev pub AnswersPages :
    Shapes → Start → Format → List ℕ → Option (List ℕ) → Option (List ℕ) → Result Ending CliFault → Type 0
AnswersPages shapes start format script old new result =
    SaysPages (λ outcome. ending_of outcome.stop) shapes start format script old new result

-- that with the error, the statement that it stopped, and the marks that the printers hold
abbrev pub AnswersPagesWith :
    Shapes → Start → Format → List ℕ → Option (List ℕ) → Option (List ℕ) → Result PagesEnd CliFault → Type 0
AnswersPagesWith shapes start format script old new result = SaysPages pages_end shapes start format script old new result

-- every refusal but WriteFailed leaves the writer's bytes as they were, whatever the reader gives
abbrev pub WritesNothing : {Y : Type 0} → Option (List ℕ) → Option (List ℕ) → Result Y CliFault → Type 0
WritesNothing old new (Ok y) = Unit {0}
WritesNothing old new (Err (Script fault)) = Keeps old new
WritesNothing old new (Err (Trace fault)) = Keeps old new
WritesNothing old new (Err (Wave fault)) = Keeps old new
WritesNothing old new (Err (Capture fault)) = Keeps old new
WritesNothing old new (Err (Picture fault)) = Keeps old new
WritesNothing old new (Err TooLarge) = Keeps old new
WritesNothing old new (Err NoMemory) = Keeps old new
WritesNothing old new (Err ReadFailed) = Keeps old new
WritesNothing old new (Err WriteFailed) = Unit {0}

-- a fault of a run: never one of a trace or of a picture, and lack of memory always as itself
abbrev pub IsRunFault : CliFault → Type 0
IsRunFault (Script script.NoMemory) = ⊥
IsRunFault (Trace fault) = ⊥
IsRunFault (Wave fault) = ⊥
IsRunFault (Capture fault) = ⊥
IsRunFault (Picture fault) = ⊥
IsRunFault _ = Unit {0}

-- a fault of a picture of pages: one of their run, or that there is no such picture
abbrev pub IsPictureFault : CliFault → Type 0
IsPictureFault (Picture fault) = Unit {0}
IsPictureFault fault = IsRunFault fault

-- a fault of pages in a format: a list of marks and lines are no pictures
abbrev pub IsPagesFault : Format → CliFault → Type 0
IsPagesFault format.List fault = IsRunFault fault
IsPagesFault (format.Lines look) fault = IsRunFault fault
IsPagesFault _ fault = IsPictureFault fault

-- the input has been read to its end, unless it is too large, a read failed or memory was refused
abbrev pub ReadsToEnd : {Y : Type 0} → Option (List ℕ) → Result Y CliFault → Type 0
ReadsToEnd left (Err TooLarge) = Unit {0}
ReadsToEnd left (Err NoMemory) = Unit {0}
ReadsToEnd left (Err ReadFailed) = Unit {0}
ReadsToEnd left _ = IsAtEnd left
