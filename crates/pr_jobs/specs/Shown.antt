-- Linking words, for proofs: what a part of the program gives of a picture. No reader needs to believe them.
use Rattle.std.specs.Prelude.{◌≡◌, ℕ, List, Result, Ok, Err}
use Rattle.pr_jobs.specs.declared.fault.CliFault.{CliFault}
use Rattle.pr_jobs.specs.declared.fault.CliFault.TheVariants.{Picture, NoMemory}
use Rattle.pr_jobs.specs.declared.fault.PictureFault.{PictureFault}
use Rattle.pr_jobs.specs.declared.text.Text.{Text}

-- the text that is shown, or why it is not, unless memory was refused
abbrev pub GivesShown : Result (List ℕ) PictureFault → Result Text CliFault → Type 0
GivesShown shown (Ok text) = shown ≡ Ok text
GivesShown shown (Err (Picture fault)) = shown ≡ Err fault
GivesShown shown (Err NoMemory) = Unit {0}
GivesShown shown (Err _) = ⊥
