-- Linking words: what the code's functions give. No reader needs to believe them.
use Rattle.std.specs.Prelude.{ℕ, suc, ◌≡◌, ◌⊎◌, ◌<◌, ⊤, List, ◌∷◌, ◌++◌, ◌+◌, [], Result, Err, length}
use Rattle.pr_basic.specs.Grammar.{Item}
use Rattle.pr_listing.specs.Program.{Holds, Line}
use Rattle.pr_listing.specs.declared.fault.ListingFault.{ListingFault}
use Rattle.pr_listing.specs.declared.fault.ListingFault.TheVariants as listing
use Rattle.pr_programs.specs.declared.fault.BasicFault.{BasicFault}
use Rattle.pr_programs.specs.declared.fault.BasicFault.TheVariants.{Listing, NoMemory}
use Rattle.pr_programs.specs.declared.typed.TypedFault.{TypedFault}
use Rattle.pr_programs.specs.declared.typed.TypedFault.TheVariants as typed_fault
use Rattle.pr_programs.specs.Saved.{lines_text}
use Rattle.pr_programs.specs.Scripts.{item_text, items_of}
use Rattle.pr_programs.specs.Typed.{Typed}

-- memory was refused, or the fault is that of a definition
abbrev pub FaultsAs : {A : Type 0} → BasicFault → Result A BasicFault → Type 0
FaultsAs fault wanted = (fault ≡ NoMemory) ⊎ (wanted ≡ Err fault)

-- memory was refused, or the text has that fault
abbrev pub TypedFaultsAs : TypedFault → Typed → Type 0
TypedFaultsAs (typed_fault.At place why) wanted = wanted ≡ Err (place, why)
TypedFaultsAs typed_fault.NoMemory wanted = ⊤

-- the first item of some bytes is added, and these bytes are left
pub record IsItemAdded (bytes rest old new : List ℕ) : Type 0 where
  pub item : Item
  pub first : items_of bytes ≡ item ∷ items_of rest
  pub is_text : new ≡ old ++ item_text item
  pub less : length rest < length bytes

-- the least number that a line can have after others
abbrev pub least_after : (least : ℕ) → List Line → ℕ
least_after least [] = least
least_after least (l ∷ ls) = least_after (l.number + 1) ls

-- the lines in front of the rest of a file were read: their text, the count of the next one and its least number
pub record IsReadTo (file text rest : List ℕ) (number least : ℕ) : Type 0 where
  pub lines : List Line
  pub held : Holds lines file rest
  pub is_text : text ≡ lines_text 0 lines
  pub ascends : least ≡ least_after 0 lines
  pub numbered : number ≡ suc (length lines)

-- the fault of a saved program that has no text
abbrev pub unsaved : ListingFault → BasicFault
unsaved listing.NoMemory = NoMemory
unsaved why = Listing why
