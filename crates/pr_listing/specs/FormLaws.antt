-- Laws: what follows from the definitions of listings. `each_listing_has_one_text_or_one_fault` proves them.
use Rattle.std.specs.Prelude.{◌≡◌, ℕ, List}
use Rattle.pr_basic.specs.declared.statement.Statement.{Statement}
use Rattle.pr_listing.specs.Forms.{HasNoText, HasText, IsListing}
use Rattle.pr_listing.specs.declared.fault.ListingFault.{ListingFault}
use Rattle.pr_listing.specs.declared.form.ListingForm.{ListingForm}

-- a listing has one text
abbrev pub OneText : Type 0
OneText = (form : ListingForm) (bytes a b : List ℕ) → HasText form bytes a → HasText form bytes b → a ≡ b

-- a listing is of one list of statements
abbrev pub OneList : Type 0
OneList = (form : ListingForm) (bytes : List ℕ) (ss others : List Statement) → IsListing form bytes ss → IsListing form bytes others → ss ≡ others

-- a listing without a text has one fault
abbrev pub OneFault : Type 0
OneFault = (form : ListingForm) (bytes : List ℕ) (f g : ListingFault) → HasNoText form bytes f → HasNoText form bytes g → f ≡ g

-- a listing with a text has no fault
abbrev pub NotBoth : Type 0
NotBoth = (form : ListingForm) (bytes text : List ℕ) (f : ListingFault) → HasText form bytes text → HasNoText form bytes f → ⊥
