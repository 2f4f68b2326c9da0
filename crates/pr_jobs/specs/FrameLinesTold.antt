-- Linking words, for proofs: which lines belong to the text that a checker has taken, and what a part of `check` answers. No reader needs to believe them.
use Rattle.std.specs.Prelude.{◌≡◌, ℕ, ◌<◌, ◌≤◌, List, [], ◌++◌, flat_map, length, Option, Some, None, Result, Ok, Err, Vec}
use Rattle.std.specs.Global.{Global}
use Rattle.std.specs.Io.KnownBytes.{IsAtEnd}
use Rattle.pr_wire.specs.declared.Frame.{Frame}
use Rattle.pr_wire.specs.declared.WaveFault.TheVariants as wave
use Rattle.pr_wire.specs.declared.text.TraceFault.TheVariants as trace
use Rattle.pr_wire.specs.declared.checker.Checker.{Checker}
use Rattle.pr_wire.specs.Checked.{HasChecked}
use Rattle.pr_jobs.specs.Check.{IsBadText, IsFaultyText, IsLawfulText}
use Rattle.pr_jobs.specs.FrameText.{frame_line, frame_lines}
use Rattle.pr_jobs.specs.declared.fault.CliFault.{CliFault}
use Rattle.pr_jobs.specs.declared.fault.CliFault.TheVariants.{Script, Trace, Wave, Capture, Picture, TooLarge, NoMemory, ReadFailed, WriteFailed}

-- the lines are those of the frames of the text checked so far
pub record HasTold (text lines : List ℕ) (c : Checker) : Type 0 where
  pub frames : List Frame
  pub checked : HasChecked text frames c
  pub told : lines ≡ flat_map frame_line frames

-- if the lines were those of the text before, they are now those of it and these bytes
abbrev pub TellsOn : List ℕ → List ℕ → Checker → List ℕ → Checker → Type 0
TellsOn bytes lines c more d = (text : List ℕ) → HasTold text lines c → HasTold (text ++ bytes) more d

-- the line of a frame, if there is one
abbrev pub line_if : Option Frame → List ℕ
line_if None = []
line_if (Some f) = frame_line f

-- the frame lines of a text of at most this many bytes, or its fault
abbrev pub GivesLines : ℕ → Result (Vec ℕ Global) CliFault → List ℕ → Type 0
GivesLines limit (Ok lines) text = (frames : List Frame) × (length text ≤ limit)
    × IsLawfulText text frames × (lines.items ≡ frame_lines frames)
GivesLines limit (Err (Trace fault)) text = (length text ≤ limit) × IsBadText text fault
GivesLines limit (Err (Wave fault)) text = (length text ≤ limit) × IsFaultyText text fault
GivesLines limit (Err (Capture fault)) text = ⊥
GivesLines limit (Err (Picture fault)) text = ⊥
GivesLines limit (Err TooLarge) text = limit < length text
GivesLines limit (Err NoMemory) text = Unit {0}
GivesLines limit (Err ReadFailed) text = Unit {0}
GivesLines limit (Err WriteFailed) text = ⊥
GivesLines limit (Err (Script fault)) text = ⊥

-- so far as its end was read
abbrev pub HasReadToEnd : Option (List ℕ) → Result (Vec ℕ Global) CliFault → Type 0
HasReadToEnd left (Ok lines) = IsAtEnd left
HasReadToEnd left (Err (Trace fault)) = IsAtEnd left
HasReadToEnd left (Err (Wave fault)) = IsAtEnd left
HasReadToEnd left (Err _) = Unit {0}

-- a fault of a text, or lack of memory as itself
abbrev pub IsTextFault : CliFault → Type 0
IsTextFault (Trace (trace.BadLine n)) = Unit {0}
IsTextFault (Wave wave.NoMemory) = ⊥
IsTextFault (Wave _) = Unit {0}
IsTextFault NoMemory = Unit {0}
IsTextFault _ = ⊥

-- a fault of a text or of its reading
abbrev pub IsInputFault : CliFault → Type 0
IsInputFault TooLarge = Unit {0}
IsInputFault ReadFailed = Unit {0}
IsInputFault fault = IsTextFault fault
