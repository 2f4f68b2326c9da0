-- Trusted: what a device hears of the frames on a bus.
use Rattle.std.specs.Prelude.{ℕ, ◌+◌, Bool, true, false, not, ◌&&◌, ◌==◌, if◌then◌else◌, List, [], Option, Some, None}
use Rattle.std.specs.List.{after_last, last_or, list_any, flat_map}
use Rattle.std.specs.Option.{option_to_list}
use Rattle.pr_base.specs.Bytes as command
use Rattle.pr_wire.specs.declared.Frame.{Frame}
use Rattle.pr_page.specs.Before.{with_before}
use Rattle.pr_page.specs.declared.input.Input.{Input}
use Rattle.pr_page.specs.declared.input.Input.TheVariants.{Select, Byte}

-- the frame is this command
abbrev pub is_command : ℕ → Frame → Bool
is_command byte frame = frame.attention && frame.byte == byte

-- UNLISTEN
abbrev pub is_unlisten : Frame → Bool
is_unlisten frame = is_command command.unlisten frame

-- LISTEN to this device
abbrev pub is_listen : ℕ → Frame → Bool
is_listen device frame = is_command (command.listen + device) frame

-- the device listens after these frames: after the last UNLISTEN there is a LISTEN to it
abbrev pub is_listening : ℕ → List Frame → Bool
is_listening device before = list_any (is_listen device) (after_last is_unlisten before)

-- the last of these frames, if there is one, is a LISTEN to the device
abbrev pub is_called : ℕ → List Frame → Bool
is_called device before = list_any (is_listen device) (option_to_list (last_or None before))

-- what a frame gives a device, after the frames before it: a LISTEN to the device selects the
-- graphic/upper case set, and secondary address 7 directly after it the lower/upper case set; a
-- data byte comes if the device listens
abbrev pub input_of : ℕ → List Frame → Frame → Option Input
input_of device before frame =
    if is_listen device frame then Some (Select false)
    else (if (is_command (command.secondary + 7) frame && is_called device before) then Some (Select true)
    else (if (not frame.attention && is_listening device before) then Some (Byte frame.byte) else None))

-- what a device hears of frames, in order
abbrev pub heard_of : ℕ → List Frame → List Input
heard_of device frames = flat_map (λ p. option_to_list (input_of device p.0 p.1)) (with_before [] frames)
