-- Trusted: what each call of a reader of comma separated values does. `HasReadTable` holds of a new
-- reader with no text; each call says for which text and samples it holds next; and the answers are
-- right for each text and all samples for which it holds.
use Rattle.std.specs.Prelude.{◌≡◌, ◌⊎◌, ℕ, ◌+◌, ◌<◌, ◌≤◌, List, [], ◌∷◌, ◌++◌, length, take, IfSome, None, Option, Result, Ok, Err}
use Rattle.pr_wire.specs.declared.Edge.{Edge}
use Rattle.pr_wire.specs.declared.Levels.{Levels}
use Rattle.pr_capture.specs.declared.csv.CsvReader.{CsvReader}
use Rattle.pr_capture.specs.declared.fault.CaptureFault.{CaptureFault}
use Rattle.pr_capture.specs.declared.fault.CaptureFault.TheVariants.{NoMemory}
use Rattle.pr_capture.specs.declared.signals.Signals.{Signals}
use Rattle.pr_capture.specs.Csv.{csv_contents}
use Rattle.pr_capture.specs.Gathers.{AllHave}
use Rattle.pr_capture.specs.CsvSteps.{line_number, HasReadTable}
use Rattle.pr_capture.specs.Recording.{ended, refused, with_samples}
use Rattle.pr_capture.specs.Samples.{listed}

-- the reader has taken these bytes after those before, and has given this sample, if there is one
abbrev pub ReadsMore : (bytes : List ℕ) → Option Edge → (old new : CsvReader) → Type 0
ReadsMore bytes sample old new =
    (s : Signals) (rate : Option ℕ) (text : List ℕ) (samples : List Edge) → HasReadTable s rate text samples old
    → HasReadTable s rate (text ++ bytes) (samples ++ listed sample) new

-- the samples of rows with these levels were given, and then this sample
pub record HasSkipped (s : Signals) (rate : Option ℕ) (text : List ℕ) (samples : List Edge) (last : Edge) (new : CsvReader) : Type 0 where
  pub between : List Edge
  pub same : AllHave last.levels between
  pub read : HasReadTable s rate text ((samples ++ between) ++ last ∷ []) new

-- the reader has taken these bytes after those before, which say samples with the levels of this one, and then this one
abbrev pub SkipsRows : (bytes : List ℕ) → (last : Edge) → (old new : CsvReader) → Type 0
SkipsRows bytes last old new =
    (s : Signals) (rate : Option ℕ) (text : List ℕ) (samples : List Edge) → HasReadTable s rate text samples old
    → HasSkipped s rate (text ++ bytes) samples last new

-- it has taken rows in front of a block whose samples have these levels, or nothing
pub record TakesRepeats (block : List ℕ) (levels : Levels) (old new : CsvReader) (result : Option (ℕ × Edge)) : Type 0 where
  pub read : IfSome result (λ r. SkipsRows (take r.0 block) r.1 old new)
  pub alike : IfSome result (λ r. r.1.levels ≡ levels)
  pub some : IfSome result (λ r. 0 < r.0)
  pub within : IfSome result (λ r. r.0 ≤ length block)
  pub number : IfSome result (λ r. line_number new ≤ line_number old + r.0)
  pub same : result ≡ None → new ≡ old

-- the fault of every text that begins with the bytes taken before and these
abbrev pub FaultsIn : (bytes : List ℕ) → (old : CsvReader) → CaptureFault → Type 0
FaultsIn bytes old f =
    (s : Signals) (rate : Option ℕ) (text : List ℕ) (samples : List Edge) → HasReadTable s rate text samples old
    → (more : List ℕ) → csv_contents s rate ((text ++ bytes) ++ more) ≡ with_samples samples (refused f)

-- such a fault, or lack of memory
abbrev pub RefusesTable : (bytes : List ℕ) → (old : CsvReader) → CaptureFault → Type 0
RefusesTable bytes old f = (f ≡ NoMemory) ⊎ FaultsIn bytes old f

-- what a reader answers at the text's end
abbrev pub EndsText : CsvReader → Result (Option Edge) CaptureFault → Type 0
EndsText r (Ok sample) =
    (s : Signals) (rate : Option ℕ) (text : List ℕ) (samples : List Edge) → HasReadTable s rate text samples r
    → csv_contents s rate text ≡ with_samples (samples ++ listed sample) ended
EndsText r (Err f) =
    (s : Signals) (rate : Option ℕ) (text : List ℕ) (samples : List Edge) → HasReadTable s rate text samples r
    → csv_contents s rate text ≡ with_samples samples (refused f)
