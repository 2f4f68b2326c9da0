-- Linking words: what is at the front of the bytes that are left of a program, for the code's type. No reader needs to believe them.
use Rattle.std.specs.Prelude.{◌≡◌, ℕ, suc, ◌<◌, List, ◌∷◌, length}
use Rattle.pr_listing.specs.Listing.{lines_text}
use Rattle.pr_listing.specs.Program as program
use Rattle.pr_listing.specs.declared.program.Front.{Front}
use Rattle.pr_listing.specs.declared.program.Front.TheVariants.{Line, End, CutOff}

-- the front is what it says
abbrev pub IsFront : Front → List ℕ → Type 0
IsFront (Line number bytes rest) all =
    program.BeginsWith (record { number = number; bytes = bytes.now }) all rest.now × (length rest.now < length all)
IsFront End all = (more : List ℕ) × (all ≡ 0 ∷ 0 ∷ more)
IsFront CutOff all = program.IsCutOff all

-- the lines in front of the rest of a file were read: their text, and the number of the next one
pub record IsReadTo (file text rest : List ℕ) (number : ℕ) : Type 0 where
  pub lines : List program.Line
  pub held : program.Holds lines file rest
  pub is_text : text ≡ lines_text lines
  pub numbered : number ≡ suc (length lines)
