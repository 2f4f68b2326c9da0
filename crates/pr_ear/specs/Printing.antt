-- Trusted: what a printer that is watched answers. `HasPrinted` holds of a printer that was begun, with no inputs and
-- no marks; each call says for which inputs and marks it holds next. The law `PrintersPrintPages` says what they are.
use Rattle.std.specs.Prelude.{◌≡◌, ◌≢◌, ℕ, ◌+◌, ◌<◌, ◌≤◌, List, [], ◌∷◌, ◌++◌, length, map, take, drop, nat_lt, if◌then◌else◌}
use Rattle.pr_page.specs.Making.{HasMade}
use Rattle.pr_page.specs.Marks.{marks_on}
use Rattle.pr_page.specs.Page.{IsPage}
use Rattle.pr_page.specs.declared.carriage.MarkOnPaper.{MarkOnPaper}
use Rattle.pr_page.specs.declared.head.Head.{Head}
use Rattle.pr_page.specs.declared.input.Input.{Input}
use Rattle.pr_page.specs.declared.input.Input.TheVariants.{Byte}
use Rattle.pr_page.specs.declared.paper.Paper.{Paper}
use Rattle.pr_page.specs.declared.paper.Row.{Row}
use Rattle.pr_ear.specs.declared.Answer.{Answer}
use Rattle.pr_ear.specs.declared.printer_numbers.WireMark.{WireMark}
use Rattle.pr_ear.specs.declared.printer_numbers.WirePrinter.{WirePrinter}
use Rattle.pr_ear.specs.declared.printing.Printed.{Printed}
use Rattle.pr_ear.specs.declared.printing.Printed.TheVariants.{Marks, TooSmall}
use Rattle.pr_ear.specs.declared.printing.Run.{Run}
use Rattle.pr_ear.specs.MarkNumbers.{mark_numbers}
use Rattle.pr_ear.specs.PrinterNumbers.{stored}

-- the printer was begun, has taken these inputs and no others, and has made these marks, all in this order
pub record HasPrinted (inputs : List Input) (marks : List MarkOnPaper) (w : WirePrinter) : Type 0 where
  pub head : Head
  pub made : HasMade inputs marks head
  pub numbers : w ≡ stored head

-- marks are at the front of a buffer, as numbers, and the rest of it is as it was
pub record IsLaid (marks : List MarkOnPaper) (old new : List WireMark) : Type 0 where
  pub fits : length marks ≤ length old
  pub buffer : new ≡ map mark_numbers marks ++ drop (length marks) old

-- with these inputs more a printer makes these marks more
pub record Makes (inputs more : List Input) (marks made : List MarkOnPaper) : Type 0 where
  pub printer : WirePrinter
  pub printed : HasPrinted (inputs ++ more) (marks ++ made) printer

-- the answer to a byte: it was taken, and its marks are in the buffer; or the buffer is too small for them, and all is
-- as it was
abbrev pub IsPrinted :
    List Input → List MarkOnPaper → ℕ → Printed → (old new : WirePrinter) → (before after : List WireMark) → Type 0
IsPrinted inputs marks b (Marks n) old new before after =
    (made : List MarkOnPaper) × HasPrinted (inputs ++ Byte b ∷ []) (marks ++ made) new × IsLaid made before after
    × (n ≡ length made)
IsPrinted inputs marks b (TooSmall n) old new before after =
    (made : List MarkOnPaper) × Makes inputs (Byte b ∷ []) marks made × (n ≡ length made) × (length before < n)
    × (new ≡ old) × (after ≡ before)

-- whatever numbers a printer has: the marks have room, or all is as it was; a byte makes at most 255 marks
abbrev pub IsAnyPrinted : ℕ → Printed → (old new : WirePrinter) → (before after : List WireMark) → Type 0
IsAnyPrinted at (Marks n) old new before after = (n ≤ 255) × (at + n ≤ length before)
IsAnyPrinted at (TooSmall n) old new before after =
    (n ≤ 255) × (length before < at + n) × (new ≡ old) × (after ≡ before)

-- the answer to bytes: as many were taken as have room in the buffer for their marks
pub record ArePrinted (inputs : List Input) (marks : List MarkOnPaper) (bytes : List ℕ) (run : Run)
    (new : WirePrinter) (before after : List WireMark) : Type 0 where
  pub made : List MarkOnPaper
  pub few : run.taken ≤ length bytes
  pub printed : HasPrinted (inputs ++ map Byte (take run.taken bytes)) (marks ++ made) new
  pub laid : IsLaid made before after
  pub count : run.marks ≡ length made
  -- and no more of them: the marks of one byte more have no room
  pub most : run.taken ≢ length bytes → (more : List MarkOnPaper)
      × Makes inputs (map Byte (take (run.taken + 1) bytes)) marks more × (length before < length more)

-- the answer to a byte as numbers
abbrev pub printed_answer : Printed → Answer
printed_answer (Marks n) = record { code = 0; fault = 0; place = 0; length = n }
printed_answer (TooSmall n) = record { code = 4; fault = 0; place = 0; length = n }

-- the answer to a selection of a set: 0 is the graphic/upper case set, 1 the lower/upper case set
abbrev pub set_answer : ℕ → Answer
set_answer set =
    if nat_lt set 2
    then record { code = 0; fault = 0; place = 0; length = 0 }
    else record { code = 2; fault = 25; place = 0; length = 0 }

-- a law: the marks are those of the page of the inputs, each with its row's place, and then those of the line that has
-- not ended, with the printer's
abbrev pub PrintersPrintPages : Type 0
PrintersPrintPages =
    (inputs : List Input) (marks : List MarkOnPaper) (printer : WirePrinter) (paper : Paper)
    → HasPrinted inputs marks printer → IsPage inputs paper → marks ≡ marks_on paper printer.y

-- a law: whatever inputs follow, the next row to end is at the printer's place
abbrev pub NextRowsAreAtPrinters : Type 0
NextRowsAreAtPrinters =
    (inputs more : List Input) (marks : List MarkOnPaper) (printer : WirePrinter) (before after : Paper) (row : Row)
    (rows : List Row)
    → HasPrinted inputs marks printer → IsPage inputs before → IsPage (inputs ++ more) after
    → after.rows ≡ before.rows ++ row ∷ rows → row.y ≡ printer.y
