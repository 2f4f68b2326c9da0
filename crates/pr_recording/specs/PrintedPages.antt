-- Trusted: what printers 4 and 5 print of a recording of the bus: the pages of what they hear of
-- its acknowledged bytes.
use Rattle.std.specs.Prelude.{◌≡◌, ℕ, Bool, true, false, List}
use Rattle.std.specs.List.{list_any}
use Rattle.pr_page.specs.declared.input.Input.{Input}
use Rattle.pr_page.specs.declared.input.Input.TheVariants.{Select, Byte}
use Rattle.pr_page.specs.Page.{IsPage}
use Rattle.pr_receiver.specs.Heard.{heard_of}
use Rattle.pr_decode.specs.declared.reading.Reading.{Reading}
use Rattle.pr_decode.specs.Frames.{acknowledged_frames}
use Rattle.pr_recording.specs.declared.printer_pair.PrintedPages.{PrintedPages}

-- what the printer with this device number hears of the frames of readings that listeners have taken
abbrev pub heard_in : ℕ → List Reading → List Input
heard_in device readings = heard_of device (acknowledged_frames readings)

-- a byte; a selection does not count, since the computer also calls a printer that is not present
abbrev pub is_byte : Input → Bool
is_byte (Byte byte) = true
is_byte (Select lower) = false

abbrev pub hears_bytes : ℕ → List Reading → Bool
hears_bytes device readings = list_any is_byte (heard_in device readings)

-- the papers of both printers; those that hear a byte count as present
pub record ArePapers (readings : List Reading) (reprinted : PrintedPages) : Type 0 where
  pub paper4 : IsPage (heard_in 4 readings) reprinted.paper4
  pub paper5 : IsPage (heard_in 5 readings) reprinted.paper5
  pub present : reprinted.present ≡ record { four = hears_bytes 4 readings; five = hears_bytes 5 readings }
