-- Trusted: what each call of a reader of Value Change Dumps does. `HasReadDump` holds of a new
-- reader with no text; each call says for which text and samples it holds next; and the answers are
-- right for each text and all samples for which it holds.
use Rattle.std.specs.Prelude.{◌≡◌, ◌⊎◌, ℕ, List, ◌++◌, Option, Result, Ok, Err}
use Rattle.pr_wire.specs.declared.Edge.{Edge}
use Rattle.pr_capture.specs.declared.vcd_reader.VcdReader.{VcdReader}
use Rattle.pr_capture.specs.declared.fault.CaptureFault.{CaptureFault}
use Rattle.pr_capture.specs.declared.fault.CaptureFault.TheVariants.{NoMemory}
use Rattle.pr_capture.specs.declared.signals.Signals.{Signals}
use Rattle.pr_capture.specs.Recording.{ended, refused, with_samples}
use Rattle.pr_capture.specs.Samples.{listed}
use Rattle.pr_capture.specs.VcdReading.{vcd_contents}
use Rattle.pr_capture.specs.VcdSteps.{HasReadDump}

-- the reader has taken these bytes after those before, and has given this sample, if there is one
abbrev pub ReadsMore : (bytes : List ℕ) → Option Edge → (old new : VcdReader) → Type 0
ReadsMore bytes sample old new =
    (s : Signals) (text : List ℕ) (samples : List Edge) → HasReadDump s text samples old
    → HasReadDump s (text ++ bytes) (samples ++ listed sample) new

-- the fault of every text that begins with the bytes taken before and these, or lack of memory
abbrev pub RefusesDump : (bytes : List ℕ) → (old : VcdReader) → CaptureFault → Type 0
RefusesDump bytes old f =
    (f ≡ NoMemory)
    ⊎ ((s : Signals) (text : List ℕ) (samples : List Edge) → HasReadDump s text samples old
    → (more : List ℕ) → vcd_contents s ((text ++ bytes) ++ more) ≡ with_samples samples (refused f))

-- what a reader answers at the text's end
abbrev pub EndsText : VcdReader → Result (Option Edge) CaptureFault → Type 0
EndsText r (Ok sample) =
    (s : Signals) (text : List ℕ) (samples : List Edge) → HasReadDump s text samples r
    → vcd_contents s text ≡ with_samples (samples ++ listed sample) ended
EndsText r (Err f) =
    (f ≡ NoMemory)
    ⊎ ((s : Signals) (text : List ℕ) (samples : List Edge) → HasReadDump s text samples r
    → vcd_contents s text ≡ with_samples samples (refused f))
