-- Linking words: what goes out on the bus, and the byte that is held back. No reader needs to believe them.
use Rattle.std.specs.Prelude.{◌≡◌, ℕ, Bool, false, Option, Some, None, List, [], ◌∷◌, ◌++◌, length, if◌then◌else◌}
use Rattle.pr_serial.specs.declared.Present.{Present}
use Rattle.pr_serial.specs.declared.Item.{Item}
use Rattle.pr_serial.specs.declared.Item.TheVariants as item
use Rattle.pr_serial.specs.Bus.{DelayNumbers}
use Rattle.pr_serial.specs.Elements.{Element}
use Rattle.pr_serial.specs.Items.{items_of}
use Rattle.pr_serial.specs.Steps.{held_at, held_of}
use Rattle.pr_serial.specs.Answers.{is_lacking}
use Rattle.pr_channels.specs.Files.{Files}
use Rattle.pr_channels.specs.Seen.{Seen, elements_from}

-- what a contract sees of the sender: of the bus as the channels, the elements, the byte held back and the status
pub record Sending : Type 0 where
  pub present : Present
  pub delays : DelayNumbers
  pub mark : Option ℕ
  pub failed : Bool
  pub sent : List Item
  pub elements : List Element
  pub held : Option ℕ
  pub status : ℕ

-- the bus has the same printers, delays and mark
pub record SenderKeepsBus (old new : Sending) : Type 0 where
  pub present : new.present ≡ old.present
  pub delays : new.delays ≡ old.delays
  pub mark : new.mark ≡ old.mark

-- while the bus works, what was sent is what its elements send, and the byte held back is the one that waits
pub record HoldsBack (failed : Bool) (items : List Item) (waiting : Option ℕ) : Type 0 where
  pub sent : failed ≡ false → items ≡ items_of (elements_from items waiting)
  pub held : failed ≡ false → waiting ≡ held_of (elements_from items waiting)

-- one more element
abbrev pub putting : Element → Sending → Sending
putting e old =
    let sent = items_of (old.elements ++ e ∷ []) in
    record old {
      sent = sent;
      elements = old.elements ++ e ∷ [];
      held = held_at e;
      status = if is_lacking old.present (length old.sent) sent then 128 else old.status;
    }

-- the channels over a sender
abbrev pub seen_of : Sending → Files → ℕ → List ℕ → Seen
seen_of s files output screen = record {
  present = s.present;
  delays = s.delays;
  mark = s.mark;
  failed = s.failed;
  sent = s.sent;
  elements = s.elements;
  files = files;
  output = output;
  status = s.status;
  screen = screen;
}

-- the item of a byte that was held back
abbrev pub flushed_as : Option ℕ → Bool → List Item
flushed_as None eoi = []
flushed_as (Some b) eoi = item.Sent b eoi ∷ []

-- the status where something was not answered or all was
abbrev pub status_at : Bool → ℕ
status_at unanswered = if unanswered then 128 else 0
