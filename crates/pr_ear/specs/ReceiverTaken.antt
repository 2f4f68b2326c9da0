-- Linking words: how a receiver is held in numbers, and which edges it has taken. No reader needs to believe them: what the calls
-- do with `HasReceived` is in `ReceiverLeft`.
use Rattle.std.specs.Prelude.{◌≡◌, ℕ, ◌-◌, ◌≤◌, not, ◌&&◌, ◌==◌, min, if◌then◌else◌, List, ◌++◌, Option, Some, None}
use Rattle.std.specs.Option.{option_to_list}
use Rattle.pr_wire.specs.declared.Frame.{Frame}
use Rattle.pr_decode.specs.Frames.{acknowledged_frame, acknowledged_frames}
use Rattle.pr_decode.specs.declared.reading.Reading.{Reading}
use Rattle.pr_receiver.specs.Heard.{is_listen, is_unlisten}
use Rattle.pr_receiver.specs.Kept.{kept_of}
use Rattle.pr_receiver.specs.declared.listener.Listener.{Listener}
use Rattle.pr_ear.specs.declared.WireEdge.{WireEdge}
use Rattle.pr_ear.specs.declared.receiving.Received.{Received}
use Rattle.pr_ear.specs.declared.receiving.Received.TheVariants.{Byte, Select, Listen, Unlisten}
use Rattle.pr_ear.specs.declared.receiving.WireReceiver.{WireReceiver}
use Rattle.pr_ear.specs.DecoderTaken.{HasDecoded}
use Rattle.pr_ear.specs.Receiving.{is_secondary, received_from}

-- what numbers mean that a device keeps of frames; all numbers are those of some device
abbrev pub listener_by : (device listens called : ℕ) → Listener
listener_by device listens called =
    record { device = min device 30; listens = listens == 1; called = called == 1 }

-- what a frame has for a device, by what the device keeps of those before it
abbrev pub received_at : Listener → Frame → Option Received
received_at l frame =
    if is_listen l.device frame then Some Listen
    else (if (is_unlisten frame && l.listens) then Some Unlisten
    else (if (is_secondary frame && l.called) then Some (Select (frame.byte - 96))
    else (if (not frame.attention && l.listens) then Some (Byte frame.byte frame.eoi) else None)))

-- the frame of a reading, if there is one, and what that has for a device
abbrev pub frame_in : Option Reading → Option Frame
frame_in None = None
frame_in (Some reading) = acknowledged_frame reading

abbrev pub received_with : ℕ → List Frame → Option Frame → Option Received
received_with device before None = None
received_with device before (Some frame) = received_from device before frame

-- a device hears the frame of a reading, if there is one
abbrev pub Hears : Option Reading → Option Received → (old new : Listener) → Type 0
Hears reading received old new =
    (device : ℕ) (before : List Frame) → old ≡ kept_of device before
    → (received ≡ received_with device before (frame_in reading))
    × (new ≡ kept_of device (before ++ option_to_list (frame_in reading)))

-- the receiver was begun for this device and then given these edges, in this order, and no others
pub record HasReceived (device : ℕ) (edges : List WireEdge) (w : WireReceiver) : Type 0 where
  pub few : device ≤ 30
  pub given : List Reading
  pub decoded : HasDecoded edges given w.decoder
  pub listener : listener_by w.device w.listens w.called ≡ kept_of device (acknowledged_frames given)
