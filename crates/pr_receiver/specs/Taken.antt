-- Linking words: what ties a receiver to the edges that it has taken. The clauses of `Receiver` say all that a caller needs of them. No
-- reader needs to believe them.
use Rattle.std.specs.Prelude.{◌≡◌, ℕ, List, Option}
use Rattle.pr_wire.specs.declared.Edge.{Edge}
use Rattle.pr_wire.specs.declared.WaveFault.{WaveFault}
use Rattle.pr_wire.specs.Following.{HasAccepted, kept_fault}
use Rattle.pr_receiver.specs.Given.{frames_ended}
use Rattle.pr_receiver.specs.Kept.{kept_of}
use Rattle.pr_receiver.specs.declared.state.Progress.{Progress}

-- the receiver has taken these edges, in this order, and no others; an edge that it refused is none of them
pub record HasReceived (edges : List Edge) (receiver : Progress) : Type 0 where
  pub accepted : HasAccepted edges (frames_ended edges) receiver.follower
  pub listener : receiver.listener ≡ kept_of receiver.listener.device (frames_ended edges)

-- the number of the device whose receiver it is
abbrev pub device_of : Progress → ℕ
device_of receiver = receiver.listener.device

-- how many edges the receiver has taken
abbrev pub number_taken : Progress → ℕ
number_taken receiver = receiver.follower.taken

-- the fault with which it refuses, if it has refused an edge
abbrev pub refusal_of : Progress → Option WaveFault
refusal_of receiver = kept_fault receiver.follower
