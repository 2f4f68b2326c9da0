-- Linking words, for proofs: what a printer hears of edges beside another one. No reader needs to believe them.
use Rattle.std.specs.Prelude.{◌≡◌, ◌≤◌, ◌+◌, ℕ, List, take, vec_capacity}
use Rattle.pr_wire.specs.declared.Edge.{Edge}
use Rattle.pr_receiver.specs.Taken.{device_of, number_taken}
use Rattle.pr_bus.specs.declared.port.WiredPort.{WiredPort}
use Rattle.pr_bus.specs.PortState.{HearsOn, ListensAs}

-- a printer has heard this many edges in front, whatever it had heard, and has the room that it had
pub record HearsMore (edges : List Edge) (n : ℕ) (old new : WiredPort) : Type 0 where
  pub hears : HearsOn (take n edges) old new
  pub device : device_of new.receiver ≡ device_of old.receiver
  pub present : new.present ≡ old.present
  pub count : number_taken new.receiver ≤ number_taken old.receiver + n
  pub capacity : vec_capacity new.inputs ≡ vec_capacity old.inputs

-- a present printer has heard these edges after whatever it had heard; one that is not has heard nothing
abbrev pub Listens : List Edge → WiredPort → WiredPort → Type 0
Listens edges old new = (device : ℕ) → ListensAs device edges old new
