-- Trusted: what a receiver answers for the edges of any bus, one by one: what comes to its device with the bytes that were
-- acknowledged.
use Rattle.std.specs.Prelude.{◌≡◌, ℕ, ◌-◌, Bool, true, false, not, ◌&&◌, ◌==◌, nat_lt, if◌then◌else◌, List, [], ◌∷◌, ◌++◌, map, Option, Some, None, Result, Ok, Err}
use Rattle.std.specs.List.{filter_map, flat_map}
use Rattle.std.specs.Option.{option_to_list}
use Rattle.pr_page.specs.Before.{with_before}
use Rattle.pr_page.specs.declared.input.Input.{Input}
use Rattle.pr_page.specs.declared.input.Input.TheVariants as input
use Rattle.pr_wire.specs.declared.Frame.{Frame}
use Rattle.pr_receiver.specs.Heard.{heard_of, is_called, is_listen, is_listening, is_unlisten}
use Rattle.pr_decode.specs.declared.decoder.GoesBack.{GoesBack}
use Rattle.pr_decode.specs.declared.reading.Reading.{Reading}
use Rattle.pr_decode.specs.Frames.{acknowledged_frames}
use Rattle.pr_ear.specs.declared.Answer.{Answer}
use Rattle.pr_ear.specs.declared.WireEdge.{WireEdge}
use Rattle.pr_ear.specs.declared.receiving.Received.{Received}
use Rattle.pr_ear.specs.declared.receiving.Received.TheVariants.{Byte, Select, Listen, Unlisten}
use Rattle.pr_ear.specs.declared.receiving.WireReceived.{WireReceived}
use Rattle.pr_ear.specs.Decoding.{StandsBefore, last_moment, said_by}
use Rattle.pr_ear.specs.Hearing.{AreHeard, bit_of, number_of}

-- the frame is a secondary address: a command of 96 to 127
abbrev pub is_secondary : Frame → Bool
is_secondary frame = frame.attention && (nat_lt 95 frame.byte && nat_lt frame.byte 128)

-- what a frame has for a device, after the frames before it: a LISTEN to the device; an UNLISTEN, if
-- the device listens; the number of a secondary address directly after a LISTEN to it; and a data
-- byte, if the device listens
abbrev pub received_from : ℕ → List Frame → Frame → Option Received
received_from device before frame =
    if is_listen device frame then Some Listen
    else (if (is_unlisten frame && is_listening device before) then Some Unlisten
    else (if (is_secondary frame && is_called device before) then Some (Select (frame.byte - 96))
    else (if (not frame.attention && is_listening device before) then Some (Byte frame.byte frame.eoi) else None)))

-- what comes to a device with frames, in order
abbrev pub received_of : ℕ → List Frame → List Received
received_of device frames = flat_map (λ p. option_to_list (received_from device p.0 p.1)) (with_before [] frames)

-- what comes to a device with the edges of a bus: with the acknowledged bytes that they say
abbrev pub received_by : ℕ → List WireEdge → List Received
received_by device edges = received_of device (acknowledged_frames (said_by edges))

-- the answer to one more edge: what comes with it, if anything; or that time goes back
abbrev pub TellsReceived : ℕ → List WireEdge → WireEdge → Result (Option Received) GoesBack → Type 0
TellsReceived device edges edge (Ok received) =
    (received_by device (edges ++ edge ∷ []) ≡ received_by device edges ++ option_to_list received)
    × (StandsBefore edge.time (last_moment edges) → ⊥)
TellsReceived device edges edge (Err back) = StandsBefore edge.time (last_moment edges)

-- an answer as numbers: what came, and the codes
abbrev pub received_numbers : Option Received → WireReceived
received_numbers None = record { kind = 0; byte = 0; eoi = 0 }
received_numbers (Some (Byte byte eoi)) = record { kind = 1; byte = byte; eoi = bit_of eoi }
received_numbers (Some (Select secondary)) = record { kind = 2; byte = secondary; eoi = 0 }
received_numbers (Some Listen) = record { kind = 3; byte = 0; eoi = 0 }
received_numbers (Some Unlisten) = record { kind = 4; byte = 0; eoi = 0 }

abbrev pub came_answer : Option Received → Answer
came_answer None = record { code = 0; fault = 0; place = 0; length = 0 }
came_answer (Some received) = record { code = 0; fault = 0; place = 0; length = 1 }

abbrev pub came_with : Result (Option Received) GoesBack → WireReceived
came_with (Ok received) = received_numbers received
came_with (Err back) = received_numbers None

abbrev pub receiver_answer_of : Result (Option Received) GoesBack → Answer
receiver_answer_of (Ok received) = came_answer received
receiver_answer_of (Err back) = record { code = 2; fault = 12; place = 0; length = 0 }

-- what the printer with this device number hears of readings, as when its pages are made
abbrev pub heard_in : ℕ → List Reading → List Input
heard_in device readings = heard_of device (acknowledged_frames readings)

-- what it is to a printer: a LISTEN selects the graphic/upper case set, secondary address 7 the
-- lower/upper case set, and a byte is printed
abbrev pub printed_for : Received → Option Input
printed_for (Byte byte eoi) = Some (input.Byte byte)
printed_for (Select secondary) = if secondary == 7 then Some (input.Select true) else None
printed_for Listen = Some (input.Select false)
printed_for Unlisten = None

abbrev pub printed_of : List Received → List Input
printed_of received = filter_map printed_for received

-- a law: on any bus, what comes to a printer is what it prints of the recording
abbrev pub ReceiversHearWhatIsPrinted : Type 0
ReceiversHearWhatIsPrinted =
    (device : ℕ) (edges : List WireEdge) → printed_of (received_by device edges) ≡ heard_in device (said_by edges)

-- a law: of a lawful trace that is what is heard of the trace at once
abbrev pub ReceiversHearLawfulTraces : Type 0
ReceiversHearLawfulTraces =
    (device : ℕ) (edges : List WireEdge) (numbers : List ℕ) → AreHeard device edges numbers
    → numbers ≡ map number_of (printed_of (received_by device edges))
