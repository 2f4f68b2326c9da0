-- Linking words, for proofs: which inputs and readings were taken for the bytes that a device hears. No reader needs to
-- believe them.
use Rattle.std.specs.Prelude.{◌≡◌, ◌≤◌, ℕ, Bool, false, not, List, [], ◌∷◌, ◌++◌, Option, Some, None}
use Rattle.std.specs.List.{list_any}
use Rattle.pr_page.specs.declared.input.Input.{Input}
use Rattle.pr_page.specs.declared.input.Input.TheVariants.{Select, Byte}
use Rattle.pr_wire.specs.declared.Frame.{Frame}
use Rattle.pr_receiver.specs.Kept.{kept_of}
use Rattle.pr_decode.specs.declared.reading.Reading.{Reading}
use Rattle.pr_decode.specs.Frames.{acknowledged_frames}
use Rattle.pr_recording.specs.declared.byte_log.ByteLog.{ByteLog}
use Rattle.pr_recording.specs.declared.byte_log.HeardBytes.{HeardBytes}
use Rattle.pr_recording.specs.declared.device_log.Ear.{Ear}
use Rattle.pr_recording.specs.Bytes.{bytes_of, heard_with, sets_of}
use Rattle.pr_recording.specs.PrintedPages.{heard_in}

-- Inputs.

-- the set that is selected after inputs
abbrev pub selected_after : (lower : Bool) → List Input → Bool
selected_after lower [] = lower
selected_after lower (Select other ∷ inputs) = selected_after other inputs
selected_after lower (Byte byte ∷ inputs) = selected_after lower inputs

-- the first of sets, if there is one
abbrev pub first_of : List Bool → Option Bool
first_of [] = None
first_of (lower ∷ sets) = Some lower

-- these inputs were taken
pub record HasLogged (inputs : List Input) (log : ByteLog) : Type 0 where
  pub bytes : log.bytes.items ≡ bytes_of inputs
  pub lower : log.lower ≡ selected_after false inputs
  pub first : log.first ≡ first_of (sets_of inputs)
  pub in_lower : log.in_lower ≡ list_any (λ lower. lower) (sets_of inputs)
  pub in_upper : log.in_upper ≡ list_any (λ lower. not lower) (sets_of inputs)

-- with an input more
abbrev pub LogsInput : Input → (old new : ByteLog) → Type 0
LogsInput input old new = (inputs : List Input) → HasLogged inputs old → HasLogged (inputs ++ input ∷ []) new

-- the bytes of inputs, and what they do not say
pub record AreHeard (inputs : List Input) (h : HeardBytes) : Type 0 where
  pub bytes : h.bytes.items ≡ bytes_of inputs
  pub heard : h.heard ≡ heard_with inputs

-- Readings.

-- an ear has heard some frames
abbrev pub IsEar : Ear → Type 0
IsEar ear = (frames : List Frame) × (ear.listener ≡ kept_of ear.listener.device frames) × (ear.listener.device ≤ 30)

-- these readings were taken for a device
pub record HasHeard (device : ℕ) (readings : List Reading) (ear : Ear) : Type 0 where
  pub kept : ear.listener ≡ kept_of device (acknowledged_frames readings)
  pub logged : HasLogged (heard_in device readings) ear.log

-- with readings more
abbrev pub HearsMore : List Reading → (old new : Ear) → Type 0
HearsMore more old new =
    (device : ℕ) (readings : List Reading) → HasHeard device readings old → HasHeard device (readings ++ more) new
