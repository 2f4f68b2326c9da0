-- Linking words, for proofs: what a part of `raw` answers for the bytes of a printer. No reader needs to believe them.
use Rattle.std.specs.Prelude.{ℕ, Bool, ◌<◌, ◌≤◌, ◌++◌, List, length, map, Option, Result, Ok, Err}
use Rattle.std.specs.Io.KnownBytes.{IsAtEnd}
use Rattle.pr_page.specs.Page.{IsPage}
use Rattle.pr_page.specs.Taken.{HasTaken}
use Rattle.pr_page.specs.declared.input.Input.{Input}
use Rattle.pr_page.specs.declared.input.Input.TheVariants.{Byte}
use Rattle.pr_page.specs.declared.paper.Paper.{Paper}
use Rattle.pr_page.specs.declared.state.PrinterState.{PrinterState}
use Rattle.pr_jobs.specs.Raw.{raw_inputs}
use Rattle.pr_jobs.specs.declared.fault.CliFault.{CliFault}
use Rattle.pr_jobs.specs.declared.fault.CliFault.TheVariants.{Script, Trace, Wave, Capture, Picture, TooLarge, NoMemory, ReadFailed, WriteFailed}

-- the page of at most this many bytes, or why there is none
abbrev pub GivesPaper : ℕ → Bool → Result Paper CliFault → List ℕ → Type 0
GivesPaper limit lower (Ok paper) bytes = (length bytes ≤ limit) × IsPage (raw_inputs lower bytes) paper
GivesPaper limit lower (Err TooLarge) bytes = limit < length bytes
GivesPaper limit lower (Err NoMemory) bytes = Unit {0}
GivesPaper limit lower (Err ReadFailed) bytes = Unit {0}
GivesPaper limit lower (Err WriteFailed) bytes = ⊥
GivesPaper limit lower (Err (Script fault)) bytes = ⊥
GivesPaper limit lower (Err (Trace fault)) bytes = ⊥
GivesPaper limit lower (Err (Wave fault)) bytes = ⊥
GivesPaper limit lower (Err (Capture fault)) bytes = ⊥
GivesPaper limit lower (Err (Picture fault)) bytes = ⊥

-- with the paper its end was read
abbrev pub HasReadAll : Option (List ℕ) → Result Paper CliFault → Type 0
HasReadAll left (Ok paper) = IsAtEnd left
HasReadAll left (Err fault) = Unit {0}

-- a fault of reading, or lack of memory
abbrev pub IsReadingFault : CliFault → Type 0
IsReadingFault TooLarge = Unit {0}
IsReadingFault NoMemory = Unit {0}
IsReadingFault ReadFailed = Unit {0}
IsReadingFault _ = ⊥

-- whatever a printer has taken before, after it has taken that and these bytes
abbrev pub PrintsOn : List ℕ → PrinterState → PrinterState → Type 0
PrintsOn bytes old new = (before : List Input) → HasTaken before old → HasTaken (before ++ map Byte bytes) new
