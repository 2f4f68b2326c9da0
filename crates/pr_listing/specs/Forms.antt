-- Trusted: the script of a listing, in each form of listings.
use Rattle.std.specs.Prelude.{◌≡◌, ℕ, List}
use Rattle.pr_basic.specs.Faults.{IsFirstFault}
use Rattle.pr_basic.specs.Grammar.{IsScript}
use Rattle.pr_basic.specs.declared.statement.Statement.{Statement}
use Rattle.pr_listing.specs.Containers.{program_in}
use Rattle.pr_listing.specs.Found.{found_form}
use Rattle.pr_listing.specs.Listing.{IsProgramText}
use Rattle.pr_listing.specs.Program.{IsProgramFault}
use Rattle.pr_listing.specs.Typed.{IsTypedFault, IsTypedText}
use Rattle.pr_listing.specs.declared.fault.ListingFault.{ListingFault}
use Rattle.pr_listing.specs.declared.form.ListingForm.{ListingForm}
use Rattle.pr_listing.specs.declared.form.ListingForm.TheVariants.{Auto, Magazine, Petcat, Program, Text}
use Rattle.pr_listing.specs.declared.form.Refusal.{Refusal}
use Rattle.pr_listing.specs.declared.form.Refusal.TheVariants as refusal
use Rattle.pr_listing.specs.declared.names.Spelling.TheVariants as spelling

-- the form in which a listing is read: the one that its first bytes show, where it is to be found in them
abbrev pub plain_form : ListingForm → List ℕ → ListingForm
plain_form Auto bytes = found_form bytes
plain_form Text bytes = Text
plain_form Program bytes = Program
plain_form Petcat bytes = Petcat
plain_form Magazine bytes = Magazine

-- a listing in this form, which is known, has this script text
abbrev pub HasPlainText : ListingForm → List ℕ → List ℕ → Type 0
HasPlainText Text bytes text = text ≡ bytes
HasPlainText Program bytes text = IsProgramText (program_in bytes) text
HasPlainText Petcat bytes text = IsTypedText spelling.Petcat bytes text
HasPlainText Magazine bytes text = IsTypedText spelling.Magazine bytes text
HasPlainText Auto bytes text = text ≡ bytes

-- why a listing in this form, which is known, has no script text
abbrev pub HasNoPlainText : ListingForm → List ℕ → ListingFault → Type 0
HasNoPlainText Text bytes fault = ⊥
HasNoPlainText Program bytes fault = IsProgramFault (program_in bytes) fault
HasNoPlainText Petcat bytes fault = IsTypedFault spelling.Petcat bytes fault
HasNoPlainText Magazine bytes fault = IsTypedFault spelling.Magazine bytes fault
HasNoPlainText Auto bytes fault = ⊥

-- a listing in this form has this script text
abbrev pub HasText : ListingForm → List ℕ → List ℕ → Type 0
HasText form bytes text = HasPlainText (plain_form form bytes) bytes text

-- why a listing in this form has no script text
abbrev pub HasNoText : ListingForm → List ℕ → ListingFault → Type 0
HasNoText form bytes fault = HasNoPlainText (plain_form form bytes) bytes fault

-- a listing in this form has these statements: those of its script text
abbrev pub IsListing : ListingForm → List ℕ → List Statement → Type 0
IsListing form bytes ss = (text : List ℕ) × HasText form bytes text × IsScript text ss

-- why a listing in this form is refused: it has no script text, or its script text has this first fault
abbrev pub IsRefused : ListingForm → List ℕ → Refusal → Type 0
IsRefused form bytes (refusal.Listing fault) = HasNoText form bytes fault
IsRefused form bytes (refusal.Script fault) = (text : List ℕ) × HasText form bytes text
    × IsFirstFault text fault
