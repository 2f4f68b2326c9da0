-- Laws: what printers hear of more readings, and of lawful traces. The functions of src/laws.rt prove them, and callers
-- take them from there.
use Rattle.std.specs.Prelude.{◌≡◌, ℕ, ◌≤◌, List, ◌++◌, length}
use Rattle.pr_page.specs.declared.input.Input.{Input}
use Rattle.pr_wire.specs.declared.Edge.{Edge}
use Rattle.pr_wire.specs.declared.Frame.{Frame}
use Rattle.pr_wire.specs.Pieces.{Spells}
use Rattle.pr_receiver.specs.Heard.{heard_of}
use Rattle.pr_decode.specs.declared.reading.Reading.{Reading}
use Rattle.pr_decode.specs.Readings.{readings_of}
use Rattle.pr_recording.specs.PrintedPages.{heard_in}

-- more readings only add inputs
abbrev pub MoreReadingsAddInputs : Type 0
MoreReadingsAddInputs =
    (device : ℕ) (readings more : List Reading)
    → (later : List Input) × (heard_in device (readings ++ more) ≡ heard_in device readings ++ later)

-- a device hears no more inputs than there are readings
abbrev pub InputsAreFew : Type 0
InputsAreFew = (device : ℕ) (readings : List Reading) → length (heard_in device readings) ≤ length readings

-- of what a lawful trace says a device hears what it hears of the frames that the trace spells
abbrev pub TracesAreHeardAsSpelled : Type 0
TracesAreHeardAsSpelled =
    (device : ℕ) (edges : List Edge) (frames : List Frame) → Spells edges frames
    → heard_in device (readings_of edges) ≡ heard_of device frames
