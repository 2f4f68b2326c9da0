-- Trusted: a picture of marks, and what the call for one answers.
use Rattle.std.specs.Prelude.{◌≡◌, ◌⊎◌, ℕ, ◌-◌, List, [], filter, map, Option, Some, None, Result, Ok, Err}
use Rattle.pr_page.specs.Marks.{marks_on}
use Rattle.pr_page.specs.Page.{IsPage}
use Rattle.pr_page.specs.declared.input.Input.{Input}
use Rattle.pr_page.specs.declared.paper.Paper.{Paper}
use Rattle.pr_characters.specs.declared.fault.CharactersFault.{CharactersFault}
use Rattle.pr_dots.specs.declared.character_sets.Shapes.{Shapes}
use Rattle.pr_render.specs.declared.format.Format.{Format}
use Rattle.pr_render.specs.declared.format.Part.{Part}
use Rattle.pr_jobs.specs.Formats.{text_in}
use Rattle.pr_jobs.specs.Raw.{four_alone, printed_on}
use Rattle.pr_jobs.specs.declared.fault.CliFault.{CliFault}
use Rattle.pr_jobs.specs.declared.fault.CliFault.TheVariants.{Picture, NoMemory}
use Rattle.pr_jobs.specs.declared.fault.PictureFault.{PictureFault}
use Rattle.pr_exports.specs.Answers.{answer_of, refusal}
use Rattle.pr_exports.specs.Asked.{Refuses, RefusesCharacters}
use Rattle.pr_exports.specs.Giving.{Gives}
use Rattle.pr_exports.specs.Marks.{HasMarks, first_up, is_marked_on, on_paper, without_blank}
use Rattle.pr_exports.specs.declared.answer.Answer.{Answer}
use Rattle.pr_exports.specs.declared.answer.TextGiven.{TextGiven}
use Rattle.pr_exports.specs.declared.marks.WireMark.{WireMark}

-- the text of the paper that has these marks, as that of printer 4
pub record IsMarksText (shapes : Shapes) (format : Format) (marks : List WireMark) (text : List ℕ) : Type 0 where
  pub paper : Paper
  pub has_marks : HasMarks marks paper
  pub is_text : text_in shapes format four_alone (printed_on paper) ≡ Ok text

-- this paper can not be shown in this format
pub record IsMarksUnshown (shapes : Shapes) (format : Format) (marks : List WireMark) (fault : PictureFault)
    : Type 0 where
  pub paper : Paper
  pub has_marks : HasMarks marks paper
  pub is_unshown : text_in shapes format four_alone (printed_on paper) ≡ Err fault

-- what is made of marks of which none is above the one before it: that text; or their paper can not be shown in this
-- format, or memory was refused
abbrev pub AnswersMarks : Shapes → Format → List WireMark → (text : List ℕ) → Result (Unit {0}) CliFault → Type 0
AnswersMarks shapes format marks text (Ok _) = IsMarksText shapes format marks text
AnswersMarks shapes format marks text (Err (Picture fault)) = IsMarksUnshown shapes format marks fault
AnswersMarks shapes format marks text (Err NoMemory) = Unit {0}
AnswersMarks shapes format marks text (Err _) = ⊥

-- the first mark that is above the one before it is answered, or the text is made
abbrev pub HandsMarks : Shapes → Format → List WireMark → (old new : List ℕ) → Answer → Type 0
HandsMarks shapes format marks old new answer =
    ((index : ℕ) × (first_up 0 0 marks ≡ Some index) × (answer ≡ refusal 18 index) × (new ≡ old))
    ⊎ ((made : Result (Unit {0}) CliFault) × (text : List ℕ) × (first_up 0 0 marks ≡ None)
    × AnswersMarks shapes format marks text made × (told : TextGiven) × Gives made text old new told
    × (answer ≡ answer_of told))

abbrev pub TellsMarks :
    Option Format → Result Shapes CharactersFault → List WireMark → (old new : List ℕ) → Answer → Type 0
TellsMarks None shapes marks old new answer = Refuses 24 old new answer
TellsMarks (Some format) (Err fault) marks old new answer = RefusesCharacters fault old new answer
TellsMarks (Some format) (Ok shapes) marks old new answer = HandsMarks shapes format marks old new answer

-- a law: the text of marks of the page of inputs, where none are held, is that of the page without its blank rows
abbrev pub MarksShowTheirPage : Type 0
MarksShowTheirPage =
    (shapes : Shapes) (format : Format) (inputs : List Input) (page : Paper) (y : ℕ) (marks : List WireMark)
    (text : List ℕ) → IsPage inputs page → page.held ≡ [] → map on_paper marks ≡ marks_on page y
    → IsMarksText shapes format marks text
    → text_in shapes format four_alone (printed_on (without_blank page)) ≡ Ok text

-- a law: a picture of one sheet needs the sheet's marks alone: other marks of which the same are on it give the same text
abbrev pub SheetsNeedTheirMarks : (Part → Format) → Type 0
SheetsNeedTheirMarks format =
    (shapes : Shapes) (part : Part) (sheet : ℕ) (marks other : List WireMark) (text again : List ℕ)
    → part.device ≡ None → part.sheet ≡ Some sheet
    → filter (is_marked_on part.layout.top (sheet - 1)) marks
    ≡ filter (is_marked_on part.layout.top (sheet - 1)) other
    → IsMarksText shapes (format part) marks text → IsMarksText shapes (format part) other again → text ≡ again
