-- Trusted: what `decode` answers for a recording when its pages are wanted, and what it leaves in the writer, with
-- characters of some shapes.
use Rattle.std.specs.Prelude.{◌≡◌, ℕ, ◌<◌, ◌≤◌, List, [], length, Option, Some, None, Result, Ok, Err}
use Rattle.std.specs.Io.KnownBytes.{Appends, IsAtEnd, Keeps}
use Rattle.pr_wire.specs.declared.Edge.{Edge}
use Rattle.pr_decode.specs.declared.reading.Reading.{Reading}
use Rattle.pr_decode.specs.Readings.{readings_of}
use Rattle.pr_recording.specs.declared.left_out.LeftOut.{LeftOut}
use Rattle.pr_recording.specs.declared.listening.Listening.{Listening}
use Rattle.pr_recording.specs.declared.pages.Reprinted.{Reprinted}
use Rattle.pr_recording.specs.declared.printer_pair.PrintedPages.{PrintedPages}
use Rattle.pr_recording.specs.LeftOut.{left_out_of}
use Rattle.pr_recording.specs.Listening.{with_calls}
use Rattle.pr_recording.specs.PrintedPages.{ArePapers}
use Rattle.pr_report.specs.Oddities.{oddities_of}
use Rattle.pr_report.specs.declared.oddities.Oddities.{Oddities}
use Rattle.pr_system.specs.declared.outcome.Outcome.{Outcome}
use Rattle.pr_dots.specs.declared.character_sets.Shapes.{Shapes}
use Rattle.pr_render.specs.declared.format.Format.{Format}
use Rattle.pr_capture.specs.declared.format.TraceInput.{TraceInput}
use Rattle.pr_jobs.specs.Formats.{text_in}
use Rattle.pr_input.specs.PartlyWritten.{AppendsFront}
use Rattle.pr_jobs.specs.Report.{Says}
use Rattle.pr_jobs.specs.Runs.{pages_end}
use Rattle.pr_jobs.specs.declared.fault.CliFault.{CliFault}
use Rattle.pr_jobs.specs.declared.fault.PictureFault.{PictureFault}
use Rattle.pr_jobs.specs.declared.fault.CliFault.TheVariants.{Script, Trace, Wave, Capture, Picture, TooLarge, NoMemory, ReadFailed, WriteFailed}
use Rattle.pr_recording.specs.Decoded.{IsDecodeFault, back_in, readings_up_to, stop_at}

-- the most bytes of a recording that is printed: a printer takes at most 2 ^ 32 inputs, and no byte
-- of a recording makes more than one
abbrev pub print_limit : ℕ
print_limit = 4000000000

-- an outcome with these papers and nothing else
abbrev pub papers_alone : PrintedPages → Outcome
papers_alone r = record { paper4 = r.paper4; paper5 = r.paper5; statuses = []; stop = None; screen = []; trace = [] }

-- the text of the pages that readings make: those of the printers that hear a byte
pub record IsPagesOf (shapes : Shapes) (format : Format) (readings : List Reading) (text : List ℕ) : Type 0 where
  pub reprinted : PrintedPages
  pub are_papers : ArePapers readings reprinted
  pub is_text : text_in shapes format reprinted.present (papers_alone reprinted) ≡ Ok text

-- the pages that readings make can not be shown in this format
pub record AreUnshown (shapes : Shapes) (format : Format) (readings : List Reading) (fault : PictureFault)
    : Type 0 where
  pub reprinted : PrintedPages
  pub are_papers : ArePapers readings reprinted
  pub is_unshown : text_in shapes format reprinted.present (papers_alone reprinted) ≡ Err fault

-- what is said of pages, by what is odd about the recording and what it has that they have not
abbrev pub said_of : PrintedPages → Oddities → LeftOut → Reprinted
said_of r odd left = record { odd = odd; left = left; present = r.present; end = pages_end (papers_alone r) }

-- these pages were written, and that was said of them
pub record TellsPages (shapes : Shapes) (format : Format) (readings : List Reading) (odd : Oddities)
    (old new : Option (List ℕ)) (said : Reprinted) : Type 0 where
  pub text : List ℕ
  pub pages : IsPagesOf shapes format readings text
  pub written : Appends old new text
  pub is_said : said ≡ said_of pages.reprinted odd (left_out_of readings)

-- these pages were written, or a beginning of them
abbrev pub WritesPages : Shapes → Format → List Reading → Option (List ℕ) → Option (List ℕ) → Type 0
WritesPages shapes format readings old new =
    (text : List ℕ) × IsPagesOf shapes format readings text × Appends old new text

abbrev pub WritesFrontOfPages : Shapes → Format → List Reading → Option (List ℕ) → Option (List ℕ) → Type 0
WritesFrontOfPages shapes format readings old new =
    (text : List ℕ) × IsPagesOf shapes format readings text × AppendsFront old new text

-- what the writer holds with each answer, by the length of the input, why it stops, the readings that are printed, and
-- what is odd about the recording
abbrev pub LeavesPages :
    (len : ℕ) → (stop : Option CliFault) → Shapes → Format → List Reading → Oddities → Option (List ℕ) → Option (List ℕ)
    → Result Reprinted CliFault → Type 0
LeavesPages len stop shapes format rs odd old new (Ok said) =
    (len ≤ print_limit) × (stop ≡ None) × TellsPages shapes format rs odd old new said
LeavesPages len stop shapes format rs odd old new (Err (Script fault)) = ⊥
LeavesPages len stop shapes format rs odd old new (Err (Trace fault)) =
    (stop ≡ Some (Trace fault)) × WritesPages shapes format rs old new
LeavesPages len stop shapes format rs odd old new (Err (Wave fault)) =
    (stop ≡ Some (Wave fault)) × WritesPages shapes format rs old new
LeavesPages len stop shapes format rs odd old new (Err (Capture fault)) =
    (stop ≡ Some (Capture fault)) × WritesPages shapes format rs old new
LeavesPages len stop shapes format rs odd old new (Err (Picture fault)) =
    AreUnshown shapes format rs fault × Keeps old new
LeavesPages len stop shapes format rs odd old new (Err TooLarge) = (print_limit < len) × Keeps old new
LeavesPages len stop shapes format rs odd old new (Err NoMemory) = Keeps old new
LeavesPages len stop shapes format rs odd old new (Err ReadFailed) = Keeps old new
LeavesPages len stop shapes format rs odd old new (Err WriteFailed) = WritesFrontOfPages shapes format rs old new

-- the answer, by the printers that listen at first, by the text and by what the writer held before and after
pub record AnswersPages (shapes : Shapes) (input : TraceInput) (listening : Listening) (format : Format) (text : List ℕ)
    (old new : Option (List ℕ)) (result : Result Reprinted CliFault) : Type 0 where
  pub edges : List Edge
  pub own : Option CliFault
  pub says : Says input text edges own
  pub leaves :
      let stop = stop_at (back_in edges) own in
      LeavesPages (length text) stop shapes format (with_calls listening (readings_up_to stop edges))
      (oddities_of edges (readings_of edges)) old new result

-- the recording has been read to its end where all of it is answered
abbrev pub ReadsPages : Option (List ℕ) → Result Reprinted CliFault → Type 0
ReadsPages left (Ok said) = IsAtEnd left
ReadsPages left (Err fault) = Unit {0}

-- a fault of pages that are asked for: one of the recording or of their picture
abbrev pub IsReprintFault : CliFault → Type 0
IsReprintFault (Picture fault) = Unit {0}
IsReprintFault fault = IsDecodeFault fault
