-- Linking words, for proofs: what a printer has heard of a trace. No reader needs to believe them.
use Rattle.std.specs.Prelude.{◌≡◌, ◌≤◌, ◌+◌, ◌++◌, ℕ, Bool, true, false, List, [], length, Option, None, Result, Ok, Err, vec_len, vec_capacity}
use Rattle.std.specs.Option.{option_to_list}
use Rattle.pr_wire.specs.declared.Edge.{Edge}
use Rattle.pr_wire.specs.declared.WaveFault.{WaveFault}
use Rattle.pr_wire.specs.Table.{IsAllowed}
use Rattle.pr_page.specs.declared.input.Input.{Input}
use Rattle.pr_receiver.specs.Given.{inputs_with}
use Rattle.pr_receiver.specs.Taken.{HasReceived, device_of, number_taken, refusal_of}
use Rattle.pr_bus.specs.declared.port.WiredPort.{WiredPort}

-- the input that an edge gives, if it gives one
abbrev pub given_list : Result (Option Input) WaveFault → List Input
given_list (Ok o) = option_to_list o
given_list (Err w) = []

-- a printer has taken just these edges, has refused none, and keeps the inputs that came after the forgotten ones
pub record IsHearing (forgotten trace : List Edge) (port : WiredPort) : Type 0 where
  pub taken : HasReceived trace port.receiver
  pub works : refusal_of port.receiver ≡ None
  pub inputs : inputs_with (device_of port.receiver) forgotten ++ port.inputs.items
      ≡ inputs_with (device_of port.receiver) trace

-- the printer with this number has heard these edges if it is present, and nothing if it is not
pub record Hears (device : ℕ) (present : Bool) (forgotten trace : List Edge) (port : WiredPort) : Type 0 where
  pub device_is : device_of port.receiver ≡ device
  pub present_is : port.present ≡ present
  pub count : number_taken port.receiver ≤ length trace
  pub hears : present ≡ true → IsHearing forgotten trace port
  pub nothing : present ≡ false → port.inputs.items ≡ []

-- a printer has heard these edges after whatever it had heard
abbrev pub HearsOn : List Edge → WiredPort → WiredPort → Type 0
HearsOn edges old new =
    (forgotten trace : List Edge) → IsAllowed (trace ++ edges) → IsHearing forgotten trace old
    → IsHearing forgotten (trace ++ edges) new

-- the printer with this number, if it is present, has heard these edges after whatever it had heard; if it is not, it has heard nothing
abbrev pub ListensAs : ℕ → List Edge → WiredPort → WiredPort → Type 0
ListensAs device edges old new =
    (present : Bool) (forgotten trace : List Edge) → IsAllowed (trace ++ edges)
    → Hears device present forgotten trace old
    → Hears device present forgotten (trace ++ edges) new

-- the printer with this number has forgotten the inputs given so far
abbrev pub ForgetsAs : ℕ → WiredPort → WiredPort → Type 0
ForgetsAs device old new =
    (present : Bool) (forgotten trace : List Edge) → Hears device present forgotten trace old
    → Hears device present trace trace new

-- it is the ear that it was, with its inputs
pub record IsSamePort (old new : WiredPort) : Type 0 where
  pub present : new.present ≡ old.present
  pub receiver : new.receiver ≡ old.receiver
  pub inputs : new.inputs.items ≡ old.inputs.items

-- if it is present, it has room for the two inputs that an item gives at most
abbrev pub HasRoom : WiredPort → Type 0
HasRoom port = port.present ≡ true → vec_len port.inputs + 2 ≤ vec_capacity port.inputs

-- a printer that has heard a trace may hear these edges after it: they are allowed, and there is room for all inputs after the forgotten
-- edges
pub record IsReady (forgotten trace edges : List Edge) (port : WiredPort) : Type 0 where
  pub hears : IsHearing forgotten trace port
  pub allowed : IsAllowed (trace ++ edges)
  pub room : length (inputs_with (device_of port.receiver) (trace ++ edges))
      ≤ length (inputs_with (device_of port.receiver) forgotten) + vec_capacity port.inputs

-- the printer may hear these edges after the trace that it has heard
abbrev pub MayHear : List Edge → WiredPort → Type 0
MayHear edges port = (forgotten : List Edge) × (trace : List Edge) × IsReady forgotten trace edges port
