-- Laws: what is printed of bytes in one character set is printed of inputs. src/printing.rt proves it.
use Rattle.std.specs.Prelude.{ℕ, ◌<◌, ◌≤◌, ◌↔◌, Bool, true, false, List, ◌∷◌, length}
use Rattle.std.specs.List.{All}
use Rattle.pr_dots.specs.declared.character_sets.Shapes.{Shapes}
use Rattle.pr_render.specs.declared.format.Format.{Format}
use Rattle.pr_jobs.specs.Raw.{IsRawText, raw_limit}
use Rattle.pr_exports.specs.Printing.{IsPrintedText}

-- the number of the selection of a character set
abbrev pub selection_of : Bool → ℕ
selection_of false = 256
selection_of true = 257

-- the text of bytes in a set is the text of the inputs that are the set's selection and then these bytes
abbrev pub BytesAreInputs : Type 0
BytesAreInputs =
    (shapes : Shapes) (lower : Bool) (format : Format) (bytes text : List ℕ)
    → All (λ b. b < 256) bytes → (((length bytes ≤ raw_limit) × IsRawText shapes lower format bytes text)
    ↔ IsPrintedText shapes format (selection_of lower ∷ bytes) text)
