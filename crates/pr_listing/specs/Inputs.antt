-- Trusted: why the script text of a listing cannot be read from a reader.
use Rattle.std.specs.Prelude.{ℕ, ◌<◌, List, length}
use Rattle.pr_listing.specs.Forms.{HasNoText}
use Rattle.pr_listing.specs.declared.form.ListingForm.{ListingForm}
use Rattle.pr_listing.specs.declared.input.TextFault.{TextFault}
use Rattle.pr_listing.specs.declared.input.TextFault.TheVariants.{Listing, NoMemory, ReadFailed, TooLarge}

-- a fault of the bytes, or one that came before they were known
abbrev pub IsTextFault : ListingForm → (limit : ℕ) → List ℕ → TextFault → Type 0
IsTextFault form limit bytes (Listing fault) = HasNoText form bytes fault
IsTextFault form limit bytes TooLarge = limit < length bytes
IsTextFault form limit bytes ReadFailed = Unit {0}
IsTextFault form limit bytes NoMemory = Unit {0}
