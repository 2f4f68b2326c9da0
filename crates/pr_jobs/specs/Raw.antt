-- Trusted: what `raw` answers for the bytes of a printer, and what it leaves in the writer, with characters of some shapes.
use Rattle.std.specs.Prelude.{◌≡◌, ℕ, Bool, true, false, ◌<◌, ◌≤◌, List, [], ◌∷◌, length, map, Option, None, Result, Ok, Err}
use Rattle.std.specs.Io.KnownBytes.{Appends, Keeps}
use Rattle.pr_dots.specs.declared.character_sets.Shapes.{Shapes}
use Rattle.pr_page.specs.Page.{IsPage}
use Rattle.pr_page.specs.declared.input.Input.{Input}
use Rattle.pr_page.specs.declared.input.Input.TheVariants.{Byte, Select}
use Rattle.pr_page.specs.declared.paper.Paper.{Paper}
use Rattle.pr_serial.specs.declared.Present.{Present}
use Rattle.pr_system.specs.Headline.{empty_paper}
use Rattle.pr_system.specs.declared.outcome.Outcome.{Outcome}
use Rattle.pr_jobs.specs.Formats.{text_in}
use Rattle.pr_input.specs.PartlyWritten.{AppendsFront}
use Rattle.pr_render.specs.declared.format.Format.{Format}
use Rattle.pr_jobs.specs.Runs.{pages_end}
use Rattle.pr_jobs.specs.declared.run.PagesEnd.{PagesEnd}
use Rattle.pr_jobs.specs.declared.fault.CliFault.{CliFault}
use Rattle.pr_jobs.specs.declared.fault.PictureFault.{PictureFault}
use Rattle.pr_jobs.specs.declared.fault.CliFault.TheVariants.{Script, Trace, Wave, Capture, Picture, TooLarge, NoMemory, ReadFailed, WriteFailed}

-- the most bytes: a printer takes at most 2^32 inputs, and the selection of a set is one of them
abbrev pub raw_limit : ℕ
raw_limit = 4294967295

-- what the printer hears: a selection of the lower/upper case set or of the graphic/upper case set, and then the bytes
abbrev pub raw_inputs : Bool → List ℕ → List Input
raw_inputs lower bytes = Select lower ∷ map Byte bytes

-- printer 4 alone
abbrev pub four_alone : Present
four_alone = record { four = true; five = false }

-- an outcome that is the paper of printer 4 and nothing else
abbrev pub printed_on : Paper → Outcome
printed_on paper = record { paper4 = paper; paper5 = empty_paper; statuses = []; stop = None; screen = []; trace = [] }

-- the text of the page of these bytes
pub record IsRawText (shapes : Shapes) (lower : Bool) (format : Format) (bytes text : List ℕ) : Type 0 where
  pub paper : Paper
  pub is_page : IsPage (raw_inputs lower bytes) paper
  pub is_text : text_in shapes format four_alone (printed_on paper) ≡ Ok text

-- the page of these bytes can not be shown in this format
pub record IsRawUnshown (shapes : Shapes) (lower : Bool) (format : Format) (bytes : List ℕ) (fault : PictureFault)
    : Type 0 where
  pub paper : Paper
  pub is_page : IsPage (raw_inputs lower bytes) paper
  pub is_unshown : text_in shapes format four_alone (printed_on paper) ≡ Err fault

-- the answer, by the bytes and by what the writer held before and after: how many marks the printer holds
abbrev pub AnswersRaw :
    Shapes → Bool → Format → List ℕ → Option (List ℕ) → Option (List ℕ) → Result PagesEnd CliFault → Type 0
AnswersRaw shapes lower format bytes old new (Ok end) =
    (text : List ℕ) × (length bytes ≤ raw_limit) × (is : IsRawText shapes lower format bytes text)
    × (end ≡ pages_end (printed_on is.paper)) × Appends old new text
AnswersRaw shapes lower format bytes old new (Err (Script fault)) = ⊥
AnswersRaw shapes lower format bytes old new (Err (Trace fault)) = ⊥
AnswersRaw shapes lower format bytes old new (Err (Wave fault)) = ⊥
AnswersRaw shapes lower format bytes old new (Err (Capture fault)) = ⊥
AnswersRaw shapes lower format bytes old new (Err (Picture fault)) =
    (length bytes ≤ raw_limit) × IsRawUnshown shapes lower format bytes fault × Keeps old new
AnswersRaw shapes lower format bytes old new (Err TooLarge) = (raw_limit < length bytes) × Keeps old new
AnswersRaw shapes lower format bytes old new (Err NoMemory) = Keeps old new
AnswersRaw shapes lower format bytes old new (Err ReadFailed) = Keeps old new
AnswersRaw shapes lower format bytes old new (Err WriteFailed) =
    (text : List ℕ) × (length bytes ≤ raw_limit) × IsRawText shapes lower format bytes text × AppendsFront old new text

-- a fault of `raw`: never one of a script or of a trace
abbrev pub IsRawFault : CliFault → Type 0
IsRawFault (Script fault) = ⊥
IsRawFault (Trace fault) = ⊥
IsRawFault (Wave fault) = ⊥
IsRawFault (Capture fault) = ⊥
IsRawFault _ = Unit {0}
