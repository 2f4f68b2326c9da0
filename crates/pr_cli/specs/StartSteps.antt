-- Linking words: how the first row of a table is found, line by line. No reader needs to believe them.
use Rattle.std.specs.Prelude.{◌≡◌, ◌⊎◌, ℕ, ◌<◌, Bool, true, false, List, [], ◌∷◌, ◌++◌, length, Option, Some, None, Result, Ok, Err}
use Rattle.std.specs.Io.KnownBytes.{IsAtEnd}
use Rattle.pr_wire.specs.declared.Edge.{Edge}
use Rattle.pr_capture.specs.declared.csv.CsvReader.{CsvReader}
use Rattle.pr_capture.specs.declared.fault.CaptureFault.{CaptureFault}
use Rattle.pr_capture.specs.declared.fault.CaptureFault.TheVariants.{NoMemory}
use Rattle.pr_capture.specs.declared.format.TraceInput.{TraceInput}
use Rattle.pr_capture.specs.Csv.{is_inner}
use Rattle.pr_capture.specs.CsvSteps.{HasReadTable}
use Rattle.std.specs.List.{prefix_len}
use Rattle.pr_cli.specs.Starts.{samples_in, with_line, zero_after}

-- a reader has taken a front of a table that has no sample
abbrev pub HasNoSample : TraceInput → (front : List ℕ) → CsvReader → Type 0
HasNoSample input front r = HasReadTable input.signals input.rate front [] r

-- a text is whole lines
abbrev pub IsWhole : List ℕ → Type 0
IsWhole text = (text ≡ []) ⊎ ((lines : List ℕ) × (text ≡ lines ++ 10 ∷ []))

-- the bytes taken after a front without samples lead to one, whatever follows; or they have none either; or the table is
-- refused in them, and has none, whatever follows
abbrev pub FindsSample : (bytes : List ℕ) → Result Bool CaptureFault → (old new : CsvReader) → Type 0
FindsSample bytes (Ok true) old new =
    (input : TraceInput) (front : List ℕ) → HasNoSample input front old
    → (more : List ℕ) → (first : Edge) × (later : List Edge) × (samples_in input ((front ++ bytes) ++ more) ≡ first ∷ later)
FindsSample bytes (Ok false) old new =
    (input : TraceInput) (front : List ℕ) → HasNoSample input front old → HasNoSample input (front ++ bytes) new
FindsSample bytes (Err f) old new =
    (f ≡ NoMemory) ⊎ ((input : TraceInput) (front : List ℕ) → HasNoSample input front old
    → (more : List ℕ) → samples_in input ((front ++ bytes) ++ more) ≡ [])

-- a line after a front without samples shows moment 0, or the table goes on without a sample
abbrev pub ShowsZero : TraceInput → (front line : List ℕ) → Option ℕ → (old new : CsvReader) → Type 0
ShowsZero input front line (Some moment) old new =
    HasNoSample input front old → IsWhole front → (lines : List (List ℕ)) → moment ≡ zero_after input front (line ∷ lines)
ShowsZero input front line None old new =
    HasNoSample input front old → IsWhole front → HasNoSample input (with_line front line) new
    × ((lines : List (List ℕ)) → zero_after input front (line ∷ lines) ≡ zero_after input (with_line front line) lines)

-- where the first line of some bytes ends, if it ends in them; if not, no more bytes follow
abbrev pub EndsLine : (bytes : List ℕ) → (left : Option (List ℕ)) → Option ℕ → Type 0
EndsLine bytes left (Some len) = (len ≡ prefix_len is_inner bytes) × (len < length bytes)
EndsLine bytes left None = (prefix_len is_inner bytes ≡ length bytes) × IsAtEnd left

-- bytes were added after others
abbrev pub GoesOn : (old new : List ℕ) → Type 0
GoesOn old new = (tail : List ℕ) × (new ≡ old ++ tail)
