-- Trusted: what a call with numbers answers for the settings and the bytes that it is passed, and what it leaves in the
-- buffer.
use Rattle.std.specs.Prelude.{◌≡◌, ◌⊎◌, ℕ, ◌≤◌, List, length, Option, Some, None, Result, Ok, Err}
use Rattle.std.specs.List.{position}
use Rattle.pr_cli.specs.declared.statuses.End.TheVariants.{Characters}
use Rattle.pr_jobs.specs.declared.characters.ShapesFault.TheVariants as shapes
use Rattle.pr_jobs.specs.declared.fault.CliFault.{CliFault}
use Rattle.pr_listing.specs.declared.form.ListingForm.{ListingForm}
use Rattle.pr_capture.specs.declared.format.InputFormat.{InputFormat}
use Rattle.pr_capture.specs.declared.format.TraceInput.{TraceInput}
use Rattle.pr_characters.specs.declared.fault.CharactersFault.{CharactersFault}
use Rattle.pr_dots.specs.declared.character_sets.Shapes.{Shapes}
use Rattle.pr_render.specs.declared.format.Format.{Format}
use Rattle.pr_report.specs.declared.detail.Detail.{Detail}
use Rattle.pr_exports.specs.Answers.{answer_of, ended, refusal}
use Rattle.pr_exports.specs.Giving.{Gives, GivesDelays, GivesEdges, GivesFault, GivesIntervals, GivesLines, GivesRows, HasNoMemory}
use Rattle.pr_exports.specs.Listings.{TellsText, answer_for}
use Rattle.pr_exports.specs.Numbers.{bounds_numbers}
use Rattle.pr_exports.specs.Printing.{AnswersInputs, inputs_limit, is_no_input}
use Rattle.pr_exports.specs.Settings.{IsInput, is_yes}
use Rattle.pr_exports.specs.declared.answer.Answer.{Answer}
use Rattle.pr_exports.specs.declared.answer.TextGiven.{TextGiven}
use Rattle.pr_exports.specs.declared.listings.Listed.{Listed}

-- a number that means no setting is refused, and the buffer is as it was
abbrev pub Refuses : ℕ → (old new : List ℕ) → Answer → Type 0
Refuses fault old new answer = (answer ≡ refusal fault 0) × (new ≡ old)

-- a file of characters is refused, with its first bad line, and the buffer is as it was
abbrev pub RefusesCharacters : CharactersFault → (old new : List ℕ) → Answer → Type 0
RefusesCharacters fault old new answer = (answer ≡ ended (Characters (shapes.Characters fault))) × (new ≡ old)

-- the edges of a recording
abbrev pub TellsEdges : Option InputFormat → (atn clock line : List ℕ) → (inverted start rate : ℕ) → List ℕ
    → (old new : List ℕ) → Answer → Type 0
TellsEdges None atn clock line inverted start rate bytes old new answer = Refuses 29 old new answer
TellsEdges (Some source) atn clock line inverted start rate bytes old new answer =
    (input : TraceInput) × IsInput source atn clock line (is_yes inverted) start rate input
    × (told : TextGiven) × GivesEdges input bytes old new told × (answer ≡ answer_of told)

-- the delay that each edge of a recording ends
abbrev pub TellsDelays : Option InputFormat → (atn clock line : List ℕ) → (inverted start rate : ℕ) → List ℕ
    → (old new : List ℕ) → Answer → Type 0
TellsDelays None atn clock line inverted start rate bytes old new answer = Refuses 29 old new answer
TellsDelays (Some source) atn clock line inverted start rate bytes old new answer =
    (input : TraceInput) × IsInput source atn clock line (is_yes inverted) start rate input
    × (told : TextGiven) × GivesDelays input bytes old new told × (answer ≡ answer_of told)

-- a row for each reading of a recording
abbrev pub TellsRows :
    Option InputFormat → (atn clock line : List ℕ) → (inverted start rate : ℕ) → Option Detail → List ℕ → (old new : List ℕ)
    → Answer → Type 0
TellsRows None atn clock line inverted start rate detail bytes old new answer = Refuses 29 old new answer
TellsRows (Some source) atn clock line inverted start rate None bytes old new answer = Refuses 20 old new answer
TellsRows (Some source) atn clock line inverted start rate (Some detail) bytes old new answer =
    (input : TraceInput) × IsInput source atn clock line (is_yes inverted) start rate input
    × (told : TextGiven) × GivesRows input detail bytes old new told × (answer ≡ answer_of told)

-- what the lengths of each interval of a recording come to
abbrev pub TellsIntervals :
    Option InputFormat → (atn clock line : List ℕ) → (inverted start rate : ℕ) → List ℕ → (old new : List ℕ) → Answer → Type 0
TellsIntervals None atn clock line inverted start rate bytes old new answer = Refuses 29 old new answer
TellsIntervals (Some source) atn clock line inverted start rate bytes old new answer =
    (input : TraceInput) × IsInput source atn clock line (is_yes inverted) start rate input
    × (told : TextGiven) × GivesIntervals input bytes old new told × (answer ≡ answer_of told)

-- the bounds of the delays
abbrev pub TellsBounds : (old new : List ℕ) → Answer → Type 0
TellsBounds old new answer =
    (told : TextGiven) × (Gives (Ok tt) bounds_numbers old new told ⊎ HasNoMemory old new told) × (answer ≡ answer_of told)

-- the line of each statement of a script
abbrev pub TellsLines : (script : List ℕ) → (old new : List ℕ) → Answer → Type 0
TellsLines script old new answer = (told : TextGiven) × GivesLines script old new told × (answer ≡ answer_of told)

-- the place of a script's first fault
abbrev pub TellsFault : (script : List ℕ) → (old new : List ℕ) → Answer → Type 0
TellsFault script old new answer = (told : TextGiven) × GivesFault script old new told × (answer ≡ answer_of told)

-- the text of a script that a listing has
abbrev pub TellsListing : Option ListingForm → List ℕ → (old new : List ℕ) → Answer → Type 0
TellsListing None bytes old new answer = Refuses 60 old new answer
TellsListing (Some form) bytes old new answer =
    (listed : Listed) × (answer ≡ answer_for listed) × TellsText form bytes old new listed

-- the page of a printer's inputs, as numbers: they are too many, or the first that means no input is answered, or the text
-- is made
abbrev pub HandsInputs : Shapes → Format → (inputs : List ℕ) → (old new : List ℕ) → Answer → Type 0
HandsInputs shapes format inputs old new answer =
    ((index : ℕ) × (length inputs ≤ inputs_limit) × (position is_no_input inputs ≡ Some index)
    × (answer ≡ refusal 28 index) × (new ≡ old))
    ⊎ ((made : Result (Unit {0}) CliFault) × (text : List ℕ) × AnswersInputs shapes format inputs text made
    × (told : TextGiven) × Gives made text old new told × (answer ≡ answer_of told))

abbrev pub TellsPrint :
    Option Format → Result Shapes CharactersFault → (inputs : List ℕ) → (old new : List ℕ) → Answer → Type 0
TellsPrint None shapes inputs old new answer = Refuses 24 old new answer
TellsPrint (Some format) (Err fault) inputs old new answer = RefusesCharacters fault old new answer
TellsPrint (Some format) (Ok shapes) inputs old new answer = HandsInputs shapes format inputs old new answer
