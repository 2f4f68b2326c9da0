-- Linking words: which readings were given to both printers. The clauses of `PrinterPair` say all that a caller needs
-- of them. No reader needs to believe them.
use Rattle.std.specs.Prelude.{◌≡◌, ℕ, max, Bool, false, List}
use Rattle.std.specs.List.{list_any}
use Rattle.pr_page.specs.Taken as page
use Rattle.pr_wire.specs.declared.Frame.{Frame}
use Rattle.pr_receiver.specs.Heard.{heard_of}
use Rattle.pr_receiver.specs.Kept.{kept_of}
use Rattle.pr_decode.specs.declared.reading.Reading.{Reading}
use Rattle.pr_decode.specs.Frames.{acknowledged_frames}
use Rattle.pr_recording.specs.declared.bus_printer.BusPrinter.{BusPrinter}
use Rattle.pr_recording.specs.declared.printer_pair.BusPrinters.{BusPrinters}
use Rattle.pr_recording.specs.PrintedPages.{is_byte}

-- a printer's listening part has heard some frames
abbrev pub HasListened : ℕ → BusPrinter → Type 0
HasListened device p = (frames : List Frame) × (p.listener ≡ kept_of device frames)

-- a printer has heard these frames, and printed what it hears of them
pub record HasPrinted (device : ℕ) (frames : List Frame) (p : BusPrinter) : Type 0 where
  pub kept : p.listener ≡ kept_of device frames
  pub taken : page.HasTaken (heard_of device frames) p.printer
  pub bytes : p.got_byte ≡ list_any is_byte (heard_of device frames)

-- how many inputs it has printed
abbrev pub number_printed : BusPrinter → ℕ
number_printed p = page.number_taken p.printer

-- both printers' listening parts have heard some frames
pub record HaveListened (printers : BusPrinters) : Type 0 where
  pub four : HasListened 4 printers.four
  pub five : HasListened 5 printers.five

-- these readings were taken, in this order, no others, and none was refused
pub record HasReprinted (readings : List Reading) (printers : BusPrinters) : Type 0 where
  pub works : printers.failed ≡ false
  pub four : HasPrinted 4 (acknowledged_frames readings) printers.four
  pub five : HasPrinted 5 (acknowledged_frames readings) printers.five

-- the number of inputs that one of the printers has taken: the one that has taken more
abbrev pub number_taken : BusPrinters → ℕ
number_taken printers = max (number_printed printers.four) (number_printed printers.five)

-- a reading was refused
abbrev pub has_failed : BusPrinters → Bool
has_failed printers = printers.failed
