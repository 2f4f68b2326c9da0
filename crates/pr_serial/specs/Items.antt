-- Trusted: which elements are sent, and which byte is marked as the last one. The definition looks
-- ahead; a talker has to wait.
use Rattle.std.specs.Prelude.{true, false, List, [], ◌∷◌, ◌++◌}
use Rattle.pr_serial.specs.declared.Item.{Item}
use Rattle.pr_serial.specs.declared.Item.TheVariants.{Attention, Sent}
use Rattle.pr_serial.specs.Elements as element
use Rattle.pr_serial.specs.Elements.{Element}

-- an attention is sent unchanged; a byte is sent if an element follows it, with end-or-identify
-- exactly if that element is an attention
abbrev pub item_before : Element → List Element → List Item
item_before (element.Attention first second) rest = Attention first second ∷ []
item_before (element.Byte b) [] = []
item_before (element.Byte b) (element.Attention first second ∷ rest) = Sent b true ∷ []
item_before (element.Byte b) (element.Byte c ∷ rest) = Sent b false ∷ []

-- the items: the elements that are sent, in order
abbrev pub items_of : List Element → List Item
items_of [] = []
items_of (e ∷ rest) = item_before e rest ++ items_of rest
