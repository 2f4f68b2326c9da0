-- Words of calls: what a contract sees of the channels, and what holds of any channels. Who uses `Channels` by itself believes them; what a statement gives is defined without them.
use Rattle.std.specs.Prelude.{◌≡◌, ℕ, Bool, false, Option, Some, None, List, [], ◌∷◌, ◌++◌, map}
use Rattle.pr_serial.specs.declared.Present.{Present}
use Rattle.pr_serial.specs.declared.Item.{Item}
use Rattle.pr_serial.specs.declared.Item.TheVariants as item
use Rattle.pr_serial.specs.Bus.{DelayNumbers}
use Rattle.pr_serial.specs.Elements.{Element, Attention, Byte}
use Rattle.pr_serial.specs.Items.{items_of}
use Rattle.pr_serial.specs.Steps.{held_of}
use Rattle.pr_channels.specs.Files.{Files}

-- of the bus its printers, delays, mark, whether it has failed, and the items sent; the elements, the files, the output device, the status and the screen's bytes
pub record Seen : Type 0 where
  pub present : Present
  pub delays : DelayNumbers
  pub mark : Option ℕ
  pub failed : Bool
  pub sent : List Item
  pub elements : List Element
  pub files : Files
  pub output : ℕ
  pub status : ℕ
  pub screen : List ℕ

-- the bus has the same printers, delays and mark
pub record KeepsBus (old new : Seen) : Type 0 where
  pub present : new.present ≡ old.present
  pub delays : new.delays ≡ old.delays
  pub mark : new.mark ≡ old.mark

-- the element that was sent as this item
abbrev pub element_of : Item → Element
element_of (item.Attention first second) = Attention first second
element_of (item.Sent b eoi) = Byte b

-- the elements of the items, and then the byte held back, if one is
abbrev pub elements_from : List Item → Option ℕ → List Element
elements_from items None = map element_of items
elements_from items (Some b) = map element_of items ++ Byte b ∷ []

-- as long as the bus works, the items are those that the elements send, and the elements are those of the items and then the byte held back
pub record IsInStep (seen : Seen) : Type 0 where
  pub items : seen.failed ≡ false → seen.sent ≡ items_of seen.elements
  pub elements : seen.failed ≡ false → seen.elements ≡ elements_from seen.sent (held_of seen.elements)
