-- Machine steps: marks that are put after others. No reader needs to believe them.
use Rattle.std.specs.Prelude.{◌≡◌, ℕ, ◌+◌, ◌<◌, ◌^◌, Bool, List, [], ◌∷◌, ◌++◌, length}
use Rattle.pr_page.specs.Codes.{code_of}
use Rattle.pr_page.specs.Steps.{begun_by, completed_by}
use Rattle.pr_page.specs.Token.{Plain}
use Rattle.pr_page.specs.declared.carriage.MarkOnPaper.{MarkOnPaper}
use Rattle.pr_page.specs.declared.input.Input.{Input}
use Rattle.pr_page.specs.declared.input.Input.TheVariants.{Byte}
use Rattle.pr_page.specs.declared.pending.Pending.TheVariants.{Idle}
use Rattle.pr_page.specs.declared.settings.Settings.{Settings}
use Rattle.pr_ear.specs.declared.printer_numbers.WireMark.{WireMark}
use Rattle.pr_ear.specs.declared.printer_numbers.WirePrinter.{WirePrinter}
use Rattle.pr_ear.specs.declared.printing.Printed.{Printed}
use Rattle.pr_ear.specs.declared.printing.Printed.TheVariants.{Marks, TooSmall}
use Rattle.pr_ear.specs.Printing.{HasPrinted, IsLaid, Makes}

-- a byte was taken, and its marks put after others; or the buffer is too small, and all is as it was
abbrev pub IsPrintedAt :
    List Input → (marks laid : List MarkOnPaper) → List WireMark → ℕ → Printed → (old new : WirePrinter)
    → (before after : List WireMark) → Type 0
IsPrintedAt inputs marks laid first b (Marks n) old new before after =
    (made : List MarkOnPaper) × HasPrinted (inputs ++ Byte b ∷ []) (marks ++ made) new
    × IsLaid (laid ++ made) first after × (n ≡ length made)
IsPrintedAt inputs marks laid first b (TooSmall n) old new before after =
    (made : List MarkOnPaper) × Makes inputs (Byte b ∷ []) marks made × (n ≡ length made)
    × (length before < length laid + n) × (new ≡ old) × (after ≡ before)

-- the same, whatever was printed before
abbrev pub PrintsAt : (b at : ℕ) → Printed → (old new : WirePrinter) → (before after : List WireMark) → Type 0
PrintsAt b at printed old new before after =
    (inputs : List Input) (marks laid : List MarkOnPaper) (first : List WireMark) → length inputs < 2 ^ 58
    → HasPrinted inputs marks old → at ≡ length laid → IsLaid laid first before
    → IsPrintedAt inputs marks laid first b printed old new before after

-- a byte leaves the settings, and begins no command
pub record LeavesSettings (b : ℕ) : Type 0 where
  pub begins : begun_by b ≡ Idle
  pub completes : (lower : Bool) → completed_by lower b ≡ Plain lower b ∷ []
  pub sets : (settings : Settings) → (code_of b).sets settings ≡ settings
