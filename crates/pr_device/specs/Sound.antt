-- Machine steps: what a device keeps, and what one moment changes in it. No reader needs to believe them.
use Rattle.std.specs.Prelude.{◌≡◌, ℕ, ◌<◌, ◌≤◌, ◌^◌, if◌then◌else◌, List, ◌++◌, Option, Some, None}
use Rattle.std.specs.Option.{option_to_list}
use Rattle.pr_wire.specs.declared.Edge.{Edge}
use Rattle.pr_wire.specs.declared.Frame.{Frame}
use Rattle.pr_wire.specs.Table.{same}
use Rattle.pr_receiver.specs.Kept.{kept_of}
use Rattle.pr_device.specs.declared.event.Event.{Event}
use Rattle.pr_device.specs.declared.place.Place.{Place}
use Rattle.pr_device.specs.declared.place.Place.TheVariants.{Between, Sent, Opening, Bits}
use Rattle.pr_device.specs.declared.state.State.{State}
use Rattle.pr_device.specs.declared.state.Step.{Step}
use Rattle.pr_device.specs.Data.{Standing, pulls, wake}
use Rattle.pr_device.specs.Events.{event_of}
use Rattle.pr_device.specs.Following.{ends, leads}
use Rattle.pr_device.specs.Timing.{IsTiming}

-- a moment, if there is one, is so early that a delay may be added
abbrev pub IsMoment : Option ℕ → Type 0
IsMoment None = Unit {0}
IsMoment (Some moment) = moment < 2 ^ 63

-- the moments of a place are
abbrev pub IsPlace : Place → Type 0
IsPlace Between = Unit {0}
IsPlace (Sent pull) = pull < 2 ^ 63
IsPlace (Opening look free eoi) = (look < 2 ^ 63) × IsMoment free
IsPlace (Bits eoi count byte) = Unit {0}

-- what a device keeps is sound
pub record IsSound (s : State) : Type 0 where
  pub least : 4 ≤ s.listener.device
  pub greatest : s.listener.device ≤ 30
  pub timing : IsTiming s.timing
  pub since : IsMoment s.since
  pub place : IsPlace s.place

-- how things stand by what a device keeps
abbrev pub standing_of : State → Standing
standing_of s =
    record { atn = s.atn; clock = s.clock; since = s.since; listens = s.listener.listens; place = s.place }

-- the byte that a moment ends
abbrev pub ended_by : State → Edge → Option Frame
ended_by s e = if same e.levels.atn s.atn then ends s.place s.clock e else None

-- what is kept of the lines after a moment
abbrev pub followed : State → Edge → State
followed s e = record s {
  atn = e.levels.atn;
  clock = e.levels.clock;
  since = if same e.levels.atn s.atn then s.since else Some e.time;
  place = if same e.levels.atn s.atn then leads s.timing.wait s.place s.clock e else Between;
}

-- what a byte, if there is one, says to a device, after those before it
abbrev pub event_if : ℕ → List Frame → Option Frame → Option Event
event_if device before None = None
event_if device before (Some frame) = event_of device before frame

-- a device hears a byte, if there is one, and keeps the rest as it was
pub record Hears (old : State) (frame : Option Frame) (event : Option Event) (new : State) : Type 0 where
  pub event_is : (before : List Frame) → old.listener ≡ kept_of old.listener.device before
      → event ≡ event_if old.listener.device before frame
  pub kept : (before : List Frame) → old.listener ≡ kept_of old.listener.device before
      → new.listener ≡ kept_of old.listener.device (before ++ option_to_list frame)
  pub device : new.listener.device ≡ old.listener.device
  pub same : new ≡ record old { listener = new.listener }

-- a device follows the lines to a moment, hears, and answers
pub record Acts (old : State) (e : Edge) (step : Step) (new : State) : Type 0 where
  -- what is kept before DATA is pulled or released
  pub middle : State
  pub hears : Hears (followed old e) (ended_by old e) step.event middle
  pub pulls_is : step.pulls_data ≡ pulls middle.timing middle.until middle.pulls (standing_of middle) e.time
  pub wake_is : step.wake ≡ wake middle.timing middle.until step.pulls_data (standing_of middle) e.time
  pub new_is : new ≡ record middle { pulls = step.pulls_data }
