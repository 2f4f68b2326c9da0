-- Trusted: the text of a script that a listing has: what is said of it, and what the buffer holds.
use Rattle.std.specs.Prelude.{◌≡◌, ℕ, ◌<◌, ◌≤◌, ◌⊎◌, List, ◌++◌, length, drop}
use Rattle.pr_listing.specs.Forms.{HasNoText, HasText}
use Rattle.pr_cli.specs.declared.statuses.End.TheVariants.{Listing as Text}
use Rattle.pr_listing.specs.declared.fault.ListingFault.TheVariants.{NoMemory}
use Rattle.pr_listing.specs.declared.form.ListingForm.{ListingForm}
use Rattle.pr_listing.specs.declared.input.TextFault.TheVariants as text
use Rattle.pr_exports.specs.Answers.{ended, plain}
use Rattle.pr_exports.specs.declared.listings.Listed.{Listed}
use Rattle.pr_exports.specs.declared.listings.Listed.TheVariants.{Written, TooSmall, Refused}
use Rattle.pr_exports.specs.declared.answer.Answer.{Answer}

-- what is said of a listing in this form: its text is in front of the buffer, and the rest as it was; or it has no room there; or there is
-- none, or memory was refused
abbrev pub TellsText : ListingForm → List ℕ → (old new : List ℕ) → Listed → Type 0
TellsText form bytes old new (Written n) =
    (text : List ℕ) × HasText form bytes text × (n ≡ length text) × (n ≤ length old) × (new ≡ text ++ drop n old)
TellsText form bytes old new (TooSmall n) =
    (text : List ℕ) × HasText form bytes text × (n ≡ length text) × (length old < n) × (new ≡ old)
TellsText form bytes old new (Refused fault) =
    ((fault ≡ NoMemory) ⊎ HasNoText form bytes fault) × (new ≡ old)

-- the answer, as numbers
abbrev pub answer_for : Listed → Answer
answer_for (Written n) = plain 0 n
answer_for (TooSmall n) = plain 4 n
answer_for (Refused NoMemory) = ended (Text text.NoMemory)
answer_for (Refused fault) = ended (Text (text.Listing fault))
