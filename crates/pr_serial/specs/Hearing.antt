-- Linking words, for proofs: what the bus without wires keeps of a printer. No reader needs to believe them.
use Rattle.std.specs.Prelude.{◌≡◌, ℕ, ◌+◌, ◌≤◌, ◌++◌, true, Option, List, vec_len, vec_capacity}
use Rattle.pr_serial.specs.declared.Present.{Present}
use Rattle.pr_serial.specs.declared.Item.{Item}
use Rattle.pr_serial.specs.declared.port.PrinterPort.{PrinterPort}
use Rattle.pr_serial.specs.Answers.{is_listener}
use Rattle.pr_serial.specs.Heard.{is_present, heard_by}
use Rattle.pr_serial.specs.HeardSinceMark.{items_before}

-- it is the printer with this number, and keeps what it heard of these items since the mark
pub record Hears (present : Present) (number : ℕ) (mark : Option ℕ) (items : List Item)
    (port : PrinterPort) : Type 0 where
  pub device : port.device ≡ number
  pub present_is : port.present ≡ is_present present number
  pub listens : port.listens ≡ is_listener number items
  pub inputs : heard_by present number (items_before mark items) ++ port.inputs.items ≡ heard_by present number items

-- it is the printer that it was, with its inputs
pub record IsSamePort (old new : PrinterPort) : Type 0 where
  pub device : new.device ≡ old.device
  pub present : new.present ≡ old.present
  pub listens : new.listens ≡ old.listens
  pub inputs : new.inputs.items ≡ old.inputs.items

-- if it is present, it has room for the two inputs that an item gives at most
abbrev pub HasRoom : PrinterPort → Type 0
HasRoom port = port.present ≡ true → vec_len port.inputs + 2 ≤ vec_capacity port.inputs
