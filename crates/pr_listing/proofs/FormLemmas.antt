-- The laws of listings in each form.
use Rattle.std.proofs.Common.{◌≡◌, ℕ, List, sym, ◌∙◌, subst, ◌⊎◌, inl, inr}
use Rattle.std.specs.Prelude.{IfErr, IfOk, MatchResult, Result, Ok, Err}
use Rattle.pr_basic.specs.Grammar.{IsScript}
use Rattle.pr_basic.specs.declared.statement.Statement.{Statement}
use Rattle.pr_listing.specs.Containers.{program_in}
use Rattle.pr_listing.specs.FormLaws.{NotBoth, OneFault, OneList, OneText}
use Rattle.pr_listing.specs.Forms.{HasNoPlainText, HasPlainText, plain_form}
use Rattle.pr_listing.specs.Listing.{IsProgramText}
use Rattle.pr_listing.specs.Program.{IsProgramFault}
use Rattle.pr_listing.specs.declared.fault.ListingFault.{ListingFault}
use Rattle.pr_listing.specs.declared.fault.ListingFault.TheVariants.{NoMemory}
use Rattle.pr_listing.specs.declared.form.ListingForm.{ListingForm}
use Rattle.pr_listing.specs.declared.form.ListingForm.TheVariants.{Auto, Magazine, Petcat, Program, Text}
use Rattle.pr_listing.specs.declared.names.Spelling.TheVariants as spelling
use Rattle.pr_listing.proofs.Unique as program
use Rattle.pr_listing.proofs.UniquePieces as typed
use Rattle.pr_base.specs.Lines.{lines_of}

-- a listing in a form that is known has one text
one_plain : (form : ListingForm) (bytes a b : List ℕ) → HasPlainText form bytes a → HasPlainText form bytes b → a ≡ b
one_plain Text bytes a b h k = h ∙ sym k
one_plain Program bytes a b h k = program.one_text (program_in bytes) a b h k
one_plain Petcat bytes a b h k = typed.one_text spelling.Petcat (lines_of bytes) a b h k
one_plain Magazine bytes a b h k = typed.one_text spelling.Magazine (lines_of bytes) a b h k
one_plain Auto bytes a b h k = h ∙ sym k

-- without a text it has one fault
one_plain_fault : (form : ListingForm) (bytes : List ℕ) (f g : ListingFault) → HasNoPlainText form bytes f → HasNoPlainText form bytes g → f ≡ g
one_plain_fault Text bytes f g h k = absurd h
one_plain_fault Program bytes f g h k = program.one_fault (program_in bytes) f g h k
one_plain_fault Petcat bytes f g h k = typed.one_fault spelling.Petcat bytes f g h k
one_plain_fault Magazine bytes f g h k = typed.one_fault spelling.Magazine bytes f g h k
one_plain_fault Auto bytes f g h k = absurd h

-- with a text it has no fault
not_both_plain : (form : ListingForm) (bytes text : List ℕ) (f : ListingFault) → HasPlainText form bytes text → HasNoPlainText form bytes f → ⊥
not_both_plain Text bytes text f h k = k
not_both_plain Program bytes text f h k = program.not_both (program_in bytes) text f h k
not_both_plain Petcat bytes text f h k = typed.not_both spelling.Petcat (lines_of bytes) text k.0 k.1 k.2 h k.3
not_both_plain Magazine bytes text f h k = typed.not_both spelling.Magazine (lines_of bytes) text k.0 k.1 k.2 h k.3
not_both_plain Auto bytes text f h k = k

-- a listing has one text
pub one_text : OneText
one_text form bytes = one_plain (plain_form form bytes) bytes

-- a listing without a text has one fault
pub one_fault : OneFault
one_fault form bytes = one_plain_fault (plain_form form bytes) bytes

-- a listing with a text has no fault
pub not_both : NotBoth
not_both form bytes = not_both_plain (plain_form form bytes) bytes

-- a listing is of one list of statements, since its text is
pub one_list : ((bytes : List ℕ) (ss others : List Statement) → IsScript bytes ss → IsScript bytes others → ss ≡ others) → OneList
one_list law form bytes ss others h k =
    law h.0 ss others h.2 (subst (λ (v : List ℕ). IsScript v others) (sym (one_text form bytes h.0 k.0 h.1 k.1)) k.2)

-- whoever gives the text or the fault gives the one text
pub complete : {V : Type 0} (items : V → List ℕ) (form : ListingForm) (bytes text : List ℕ) (r : Result V ListingFault) → IfOk r (λ t. HasPlainText form bytes (items t)) → IfErr r (λ f. (f ≡ NoMemory) ⊎ HasNoPlainText form bytes f) → HasPlainText form bytes text
    → MatchResult r (λ t. items t ≡ text) (λ f. f ≡ NoMemory)
complete items form bytes text (Ok t) h k has = one_plain form bytes (items t) text h has
complete items form bytes text (Err f) h (inl none) has = none
complete items form bytes text (Err f) h (inr fault) has = absurd (not_both_plain form bytes text f has fault)

-- the same of a saved program, which may be in a file of another kind
pub complete_program : {V : Type 0} (items : V → List ℕ) (bytes inside text : List ℕ) (r : Result V ListingFault) → inside ≡ program_in bytes → IfOk r (λ t. IsProgramText inside (items t)) → IfErr r (λ f. (f ≡ NoMemory) ⊎ IsProgramFault inside f)
    → IsProgramText (program_in bytes) text → MatchResult r (λ t. items t ≡ text) (λ f. f ≡ NoMemory)
complete_program items bytes inside text r e h k has =
    complete items Program bytes text r (subst (λ (v : List ℕ). IfOk r (λ t. IsProgramText v (items t))) e h) (subst (λ (v : List ℕ). IfErr r (λ f. (f ≡ NoMemory) ⊎ IsProgramFault v f)) e k) has
