-- Trusted: the bytes that a device hears, what they do not say of its inputs, and what `decode` answers for a recording
-- where they are wanted: with what is odd about the recording.
use Rattle.std.specs.Prelude.{◌≡◌, ℕ, ◌<◌, ◌≤◌, Bool, false, not, ◌&&◌, List, [], ◌∷◌, length, nat_lt, Option, Some, None, Result, Ok, Err}
use Rattle.std.specs.Io.KnownBytes.{Appends, IsAtEnd, Keeps}
use Rattle.std.specs.List.{filter_map, list_any}
use Rattle.pr_page.specs.declared.input.Input.{Input}
use Rattle.pr_page.specs.declared.input.Input.TheVariants.{Select, Byte}
use Rattle.pr_wire.specs.declared.Edge.{Edge}
use Rattle.pr_decode.specs.Readings.{readings_of}
use Rattle.pr_report.specs.Oddities.{oddities_of}
use Rattle.pr_report.specs.declared.oddities.Oddities.{Oddities}
use Rattle.pr_render.specs.declared.format.Device.{Device}
use Rattle.pr_render.specs.declared.format.Device.TheVariants.{Four, Five}
use Rattle.pr_capture.specs.declared.format.TraceInput.{TraceInput}
use Rattle.pr_input.specs.PartlyWritten.{AppendsFront}
use Rattle.pr_jobs.specs.Check.{trace_limit}
use Rattle.pr_jobs.specs.Report.{Says}
use Rattle.pr_jobs.specs.declared.fault.CliFault.{CliFault}
use Rattle.pr_jobs.specs.declared.fault.CliFault.TheVariants.{Script, Trace, Wave, Capture, Picture, TooLarge, NoMemory, ReadFailed, WriteFailed}
use Rattle.pr_recording.specs.declared.byte_log.Heard.{Heard}
use Rattle.pr_recording.specs.declared.bytes.Overheard.{Overheard}
use Rattle.pr_recording.specs.declared.left_out.LeftOut.{LeftOut}
use Rattle.pr_recording.specs.declared.listening.Listening.{Listening}
use Rattle.pr_recording.specs.Decoded.{back_in, readings_up_to, stop_at}
use Rattle.pr_recording.specs.LeftOut.{left_out_of}
use Rattle.pr_recording.specs.Listening.{with_calls}
use Rattle.pr_recording.specs.PrintedPages.{heard_in}

-- the number of a printer
abbrev pub number_of : Device → ℕ
number_of Four = 4
number_of Five = 5

-- the bytes of inputs; a selection of a character set is none
abbrev pub byte_of : Input → Option ℕ
byte_of (Byte byte) = Some byte
byte_of (Select lower) = None

abbrev pub bytes_of : List Input → List ℕ
bytes_of inputs = filter_map byte_of inputs

-- the set that is selected when each byte comes, true for lower/upper case, where this one is selected before the
-- inputs
abbrev pub sets_from : (lower : Bool) → List Input → List Bool
sets_from lower [] = []
sets_from lower (Select other ∷ inputs) = sets_from other inputs
sets_from lower (Byte byte ∷ inputs) = lower ∷ sets_from lower inputs

-- at first graphic/upper case is selected
abbrev pub sets_of : List Input → List Bool
sets_of inputs = sets_from false inputs

-- the set of the first byte; without a byte graphic/upper case
abbrev pub first_set : List Bool → Bool
first_set [] = false
first_set (lower ∷ sets) = lower

-- bytes come in both sets
abbrev pub are_both : List Bool → Bool
are_both sets = list_any (λ lower. lower) sets && list_any (λ lower. not lower) sets

-- what the bytes of inputs do not say
abbrev pub heard_with : List Input → Heard
heard_with inputs = record { lower = first_set (sets_of inputs); reselected = are_both (sets_of inputs) }

-- what is said of bytes, by what they do not say, what is odd about the recording, and what it has that they have not
abbrev pub overheard_of : List ℕ → Heard → Oddities → LeftOut → Overheard
overheard_of bytes heard odd left =
    record { heard = heard; odd = odd; left = left; has_byte = nat_lt 0 (length bytes) }

-- what the writer holds with each answer, by the length of the recording, why it stops, what the device hears, what is
-- odd about the recording, and what it has that the bytes have not
abbrev pub LeavesBytes :
    (len : ℕ) → (stop : Option CliFault) → List Input → Oddities → LeftOut → Option (List ℕ) → Option (List ℕ)
    → Result Overheard CliFault
    → Type 0
LeavesBytes len stop inputs odd left old new (Ok said) =
    (len ≤ trace_limit) × (stop ≡ None) × (said ≡ overheard_of (bytes_of inputs) (heard_with inputs) odd left)
    × Appends old new (bytes_of inputs)
LeavesBytes len stop inputs odd left old new (Err (Script fault)) = ⊥
LeavesBytes len stop inputs odd left old new (Err (Trace fault)) =
    (stop ≡ Some (Trace fault)) × Appends old new (bytes_of inputs)
LeavesBytes len stop inputs odd left old new (Err (Wave fault)) =
    (stop ≡ Some (Wave fault)) × Appends old new (bytes_of inputs)
LeavesBytes len stop inputs odd left old new (Err (Capture fault)) =
    (stop ≡ Some (Capture fault)) × Appends old new (bytes_of inputs)
LeavesBytes len stop inputs odd left old new (Err (Picture fault)) = ⊥
LeavesBytes len stop inputs odd left old new (Err TooLarge) = (trace_limit < len) × Keeps old new
LeavesBytes len stop inputs odd left old new (Err NoMemory) = Keeps old new
LeavesBytes len stop inputs odd left old new (Err ReadFailed) = Keeps old new
LeavesBytes len stop inputs odd left old new (Err WriteFailed) = AppendsFront old new (bytes_of inputs)

-- the answer, by the printers that listen at first, by the text and by what the writer held before and after
pub record AnswersBytes (input : TraceInput) (listening : Listening) (device : Device) (text : List ℕ) (old new : Option (List ℕ))
    (result : Result Overheard CliFault) : Type 0 where
  pub edges : List Edge
  pub own : Option CliFault
  pub says : Says input text edges own
  pub leaves :
      let stop = stop_at (back_in edges) own in
      let readings = with_calls listening (readings_up_to stop edges) in
      LeavesBytes (length text) stop (heard_in (number_of device) readings) (oddities_of edges (readings_of edges))
      (left_out_of readings) old new result

-- the recording has been read to its end where all of it is answered
abbrev pub HasReadBytes : Option (List ℕ) → Result Overheard CliFault → Type 0
HasReadBytes left (Ok said) = IsAtEnd left
HasReadBytes left (Err fault) = Unit {0}
