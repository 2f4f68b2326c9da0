-- Linking words: what ties a device to the moments that it was shown. The clauses of `Device` say all that a caller
-- needs of them. No reader needs to believe them.
use Rattle.std.specs.Prelude.{◌≡◌, ℕ, Bool, List, [], ◌∷◌, ◌++◌, Option}
use Rattle.std.specs.Option.{option_to_list}
use Rattle.pr_wire.specs.declared.Edge.{Edge}
use Rattle.pr_receiver.specs.Kept.{kept_of}
use Rattle.pr_device.specs.declared.event.Event.{Event}
use Rattle.pr_device.specs.declared.state.State.{State}
use Rattle.pr_device.specs.declared.timing.Timing.{Timing}
use Rattle.pr_device.specs.Following.{atn_of, clock_of, since_of, place_after, said, frame_at}
use Rattle.pr_device.specs.Sound.{event_if}

-- the device was shown these moments, the latest first, and no others
pub record HasSeen (history : List Edge) (s : State) : Type 0 where
  pub atn : s.atn ≡ atn_of history
  pub clock : s.clock ≡ clock_of history
  pub since : s.since ≡ since_of history
  pub place : s.place ≡ place_after s.timing.wait history
  pub listener : s.listener ≡ kept_of s.listener.device (said s.timing.wait history)

-- its number
abbrev pub device_of : State → ℕ
device_of s = s.listener.device

-- its delays
abbrev pub timing_of : State → Timing
timing_of s = s.timing

-- how long it prints
abbrev pub busy_until : State → ℕ
busy_until s = s.until

-- whether it pulls DATA
abbrev pub is_pulling : State → Bool
is_pulling s = s.pulls

-- what a device hears at a moment, after the history before it: what the byte says that the moment ends
abbrev pub event_at : (wait device : ℕ) → List Edge → Edge → Option Event
event_at wait device history e = event_if device (said wait history) (frame_at wait history e)

-- what it hears at the moments of a history, in the order in which it comes
abbrev pub events_with : (wait device : ℕ) → List Edge → List Event
events_with wait device [] = []
events_with wait device (e ∷ history) =
    events_with wait device history ++ option_to_list (event_at wait device history e)
