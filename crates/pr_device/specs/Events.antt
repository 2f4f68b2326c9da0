-- Trusted: what a device hears of the bytes that a talker sends.
use Rattle.std.specs.Prelude.{ℕ, ◌+◌, ◌/◌, ◌%◌, Bool, false, true, ◌==◌, if◌then◌else◌, List, [], Option, Some, None}
use Rattle.std.specs.List.{flat_map}
use Rattle.std.specs.Option.{option_to_list}
use Rattle.pr_base.specs.Bytes as command
use Rattle.pr_wire.specs.declared.Frame.{Frame}
use Rattle.pr_page.specs.Before.{with_before}
use Rattle.pr_page.specs.declared.input.Input.{Input}
use Rattle.pr_page.specs.declared.input.Input.TheVariants as input
use Rattle.pr_receiver.specs.Heard.{is_listening, is_called}
use Rattle.pr_receiver.specs.declared.listener.Listener.{Listener}
use Rattle.pr_device.specs.declared.event.Event.{Event}
use Rattle.pr_device.specs.declared.event.Event.TheVariants.{Listen, Second, Open, Close, Byte, Unlisten}

-- a secondary address ($60 on), its closing ($E0 on) and its opening ($F0 on), each plus a number of 0 to 15
abbrev pub secondary_event : ℕ → Option Event
secondary_event byte =
    if byte / 16 == 6 then Some (Second (byte % 16))
    else (if byte / 16 == 14 then Some (Close (byte % 16))
    else (if byte / 16 == 15 then Some (Open (byte % 16)) else None))

-- what a command says to a device: whether the frame directly before called it, and whether it listens
abbrev pub command_event : (device : ℕ) (called listens : Bool) (byte : ℕ) → Option Event
command_event device called listens byte =
    if byte == command.listen + device then Some Listen
    else (if byte == command.unlisten then (if listens then Some Unlisten else None)
    else (if called then secondary_event byte else None))

-- what a frame says to a device, by what that keeps of the frames before it
abbrev pub event_by : Listener → Frame → Option Event
event_by l frame =
    if frame.attention then command_event l.device l.called l.listens frame.byte
    else (if l.listens then Some (Byte frame.byte frame.eoi) else None)

-- what a frame says to a device, after the frames before it: a command what it says to all or to the device that was
-- called directly before, and a data byte itself, if the device listens
abbrev pub event_of : ℕ → List Frame → Frame → Option Event
event_of device before frame =
    event_by (record { device = device; listens = is_listening device before; called = is_called device before }) frame

-- what a device hears of frames, in order
abbrev pub events_of : ℕ → List Frame → List Event
events_of device frames = flat_map (λ p. option_to_list (event_of device p.0 p.1)) (with_before [] frames)

-- what an event is for a printer: a LISTEN selects the graphic/upper case set, secondary address 7 the lower/upper case
-- set
abbrev pub input_of_event : Event → Option Input
input_of_event Listen = Some (input.Select false)
input_of_event (Second number) = if number == 7 then Some (input.Select true) else None
input_of_event (Byte byte eoi) = Some (input.Byte byte)
input_of_event _ = None

-- the inputs of events
abbrev pub inputs_of_events : List Event → List Input
inputs_of_events events = flat_map (λ e. option_to_list (input_of_event e)) events
