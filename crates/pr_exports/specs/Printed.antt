-- Linking words, for proofs: the text of a paper, and of a page of inputs or of marks, as it is made. No reader needs
-- to believe them.
use Rattle.std.specs.Prelude.{◌≡◌, ℕ, List, Result, Ok, Err, Vec}
use Rattle.std.specs.Global.{Global}
use Rattle.pr_page.specs.declared.input.Input.{Input}
use Rattle.pr_dots.specs.declared.character_sets.Shapes.{Shapes}
use Rattle.pr_render.specs.declared.format.Format.{Format}
use Rattle.pr_jobs.specs.declared.fault.CliFault.{CliFault}
use Rattle.pr_jobs.specs.declared.fault.CliFault.TheVariants.{Picture, NoMemory}
use Rattle.pr_jobs.specs.declared.fault.PictureFault.{PictureFault}
use Rattle.pr_exports.specs.Marked.{IsMarksText, IsMarksUnshown}
use Rattle.pr_exports.specs.Printing.{IsInputsText, IsInputsUnshown}
use Rattle.pr_exports.specs.declared.marks.WireMark.{WireMark}

-- a text that is to be shown, or why it is not, unless memory was refused
abbrev pub GivesText : Result (List ℕ) PictureFault → Result (Vec ℕ Global) CliFault → Type 0
GivesText shown (Ok text) = shown ≡ Ok text.items
GivesText shown (Err (Picture fault)) = shown ≡ Err fault
GivesText shown (Err NoMemory) = Unit {0}
GivesText shown (Err _) = ⊥

-- the text of the page, or why it is not shown, unless memory was refused
abbrev pub GivesInputsText : Shapes → Format → List Input → Result (Vec ℕ Global) CliFault → Type 0
GivesInputsText shapes format inputs (Ok text) = IsInputsText shapes format inputs text.items
GivesInputsText shapes format inputs (Err (Picture fault)) = IsInputsUnshown shapes format inputs fault
GivesInputsText shapes format inputs (Err NoMemory) = Unit {0}
GivesInputsText shapes format inputs (Err _) = ⊥

-- the same of marks
abbrev pub GivesMarksText : Shapes → Format → List WireMark → Result (Vec ℕ Global) CliFault → Type 0
GivesMarksText shapes format marks (Ok text) = IsMarksText shapes format marks text.items
GivesMarksText shapes format marks (Err (Picture fault)) = IsMarksUnshown shapes format marks fault
GivesMarksText shapes format marks (Err NoMemory) = Unit {0}
GivesMarksText shapes format marks (Err _) = ⊥
