-- Linking words, for laws and proofs: what one more element or item does. No reader needs to believe them.
use Rattle.std.specs.Prelude.{◌≡◌, ⊤, ℕ, Bool, true, false, Option, Some, None, List, [], ◌∷◌, map}
use Rattle.pr_serial.specs.declared.Present.{Present}
use Rattle.pr_serial.specs.declared.Item.{Item}
use Rattle.pr_serial.specs.declared.Item.TheVariants.{Attention, Sent}
use Rattle.pr_serial.specs.Elements as element
use Rattle.pr_serial.specs.Elements.{Element}
use Rattle.pr_page.specs.Before.{with_before}
use Rattle.pr_serial.specs.Answers.{is_listen, is_answered}

-- a byte held back is sent before the next element, with end-or-identify if that is an attention
abbrev pub flushed : Option ℕ → Element → List Item
flushed None e = []
flushed (Some b) (element.Attention first second) = Sent b true ∷ []
flushed (Some b) (element.Byte c) = Sent b false ∷ []

-- the byte that waits for a next element: the last element, if that is a byte
abbrev pub held_of : List Element → Option ℕ
held_of [] = None
held_of (element.Attention first second ∷ []) = None
held_of (element.Byte b ∷ []) = Some b
held_of (e ∷ next ∷ rest) = held_of (next ∷ rest)

-- what an element sends at once
abbrev pub sent_at_once : Element → List Item
sent_at_once (element.Attention first second) = Attention first second ∷ []
sent_at_once (element.Byte b) = []

-- what is held back after an element
abbrev pub held_at : Element → Option ℕ
held_at (element.Attention first second) = None
held_at (element.Byte b) = Some b

-- for each of the later items, whether it is answered after the earlier ones
abbrev pub answers_after : Present → List Item → List Item → List Bool
answers_after present earlier later = map (λ p. is_answered present p.0 p.1) (with_before earlier later)

-- no LISTEN to the device is among the items
abbrev pub IsNotCalled : ℕ → List Item → Type 0
IsNotCalled device [] = ⊤
IsNotCalled device (item ∷ items) = (is_listen device item ≡ false) × IsNotCalled device items
