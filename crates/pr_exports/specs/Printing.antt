-- Trusted: a printer's inputs as the numbers that a caller passes, and what is made of them.
use Rattle.std.specs.Prelude.{◌≡◌, ℕ, ◌<◌, ◌≤◌, Bool, ◌==◌, nat_lt, if◌then◌else◌, List, length, map, None, Result, Ok, Err}
use Rattle.std.specs.List.{position}
use Rattle.pr_page.specs.Page.{IsPage}
use Rattle.pr_page.specs.declared.input.Input.{Input}
use Rattle.pr_page.specs.declared.input.Input.TheVariants.{Byte, Select}
use Rattle.pr_page.specs.declared.paper.Paper.{Paper}
use Rattle.pr_dots.specs.declared.character_sets.Shapes.{Shapes}
use Rattle.pr_render.specs.declared.format.Format.{Format}
use Rattle.pr_jobs.specs.Formats.{text_in}
use Rattle.pr_jobs.specs.Raw.{four_alone, printed_on}
use Rattle.pr_jobs.specs.declared.fault.CliFault.{CliFault}
use Rattle.pr_jobs.specs.declared.fault.CliFault.TheVariants.{Picture, TooLarge, NoMemory}
use Rattle.pr_jobs.specs.declared.fault.PictureFault.{PictureFault}

-- a number above 257 means no input
abbrev pub is_no_input : ℕ → Bool
is_no_input number = nat_lt 257 number

-- the input that another number means: 0 to 255 a byte, 256 the selection of the graphic/upper
-- case set, 257 that of the lower/upper case set
abbrev pub input_of : ℕ → Input
input_of number = if nat_lt number 256 then Byte number else Select (number == 257)

-- the most inputs that a printer takes
abbrev pub inputs_limit : ℕ
inputs_limit = 4294967296

-- the text of the page of these inputs, as that of printer 4
pub record IsInputsText (shapes : Shapes) (format : Format) (inputs : List Input) (text : List ℕ) : Type 0 where
  pub paper : Paper
  pub is_page : IsPage inputs paper
  pub is_text : text_in shapes format four_alone (printed_on paper) ≡ Ok text

-- the page of these inputs can not be shown in this format
pub record IsInputsUnshown (shapes : Shapes) (format : Format) (inputs : List Input) (fault : PictureFault)
    : Type 0 where
  pub paper : Paper
  pub is_page : IsPage inputs paper
  pub is_unshown : text_in shapes format four_alone (printed_on paper) ≡ Err fault

-- the text of the page of the inputs that these numbers mean; each means one
abbrev pub IsPrintedText : Shapes → Format → List ℕ → List ℕ → Type 0
IsPrintedText shapes format numbers text =
    (length numbers ≤ inputs_limit) × (position is_no_input numbers ≡ None)
    × IsInputsText shapes format (map input_of numbers) text

-- what is made of numbers: that text; or they are too many; or each means an input, and their page can not be shown in
-- this format, or memory was refused
abbrev pub AnswersInputs : Shapes → Format → List ℕ → (text : List ℕ) → Result (Unit {0}) CliFault → Type 0
AnswersInputs shapes format numbers text (Ok _) = IsPrintedText shapes format numbers text
AnswersInputs shapes format numbers text (Err TooLarge) = inputs_limit < length numbers
AnswersInputs shapes format numbers text (Err (Picture fault)) =
    (length numbers ≤ inputs_limit) × (position is_no_input numbers ≡ None)
    × IsInputsUnshown shapes format (map input_of numbers) fault
AnswersInputs shapes format numbers text (Err NoMemory) =
    (length numbers ≤ inputs_limit) × (position is_no_input numbers ≡ None)
AnswersInputs shapes format numbers text (Err _) = ⊥
