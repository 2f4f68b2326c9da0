-- Trusted: the frames that edges end, each with its moments: that of its look, when CLOCK is
-- released for it, and that of its acknowledgement, when DATA is pulled after its last bit.
use Rattle.std.specs.Prelude.{ℕ, not, List, [], ◌∷◌, ◌++◌, Option, Some, None, Result, Ok, Err, if◌then◌else◌}
use Rattle.std.specs.Option.{option_to_list}
use Rattle.pr_wire.specs.declared.Edge.{Edge}
use Rattle.pr_wire.specs.declared.Frame.{Frame}
use Rattle.pr_wire.specs.declared.bus_state.EdgeError.{EdgeError}
use Rattle.pr_wire.specs.declared.bus_state.BusState.{BusState}
use Rattle.pr_wire.specs.declared.bus_state.BusState.TheVariants.{Idle, Ready, Ack}
use Rattle.pr_wire.specs.declared.bus_state.Step.{Step}
use Rattle.pr_wire.specs.Table.{atn_of, is_start, verdict}
use Rattle.pr_report.specs.declared.timed_frame.TimedFrame.{TimedFrame}

-- the frame without its moments: it is a command where ATN is pulled
abbrev pub frame_told : TimedFrame → Frame
frame_told f = record { attention = not (atn_of f.sending); byte = f.byte; eoi = f.eoi }

-- the last look after an edge has led to a place: the edge itself if the place is Ready
abbrev pub look_with : (look : ℕ) → BusState → ℕ
look_with look (Ready l s) = l
look_with look _ = look

-- the moments of a frame that an edge ends: it begins with the last look, and ends at the place
-- reached, where it is acknowledged
abbrev pub with_moments : (look : ℕ) → Option Frame → BusState → Option TimedFrame
with_moments look None p = None
with_moments look (Some f) (Ack k s byte) =
    Some (record { look = look; acknowledged = k; sending = s; byte = f.byte; eoi = f.eoi })
with_moments look (Some f) _ = None

-- the frames from an edge on that the table of lawful traces allows; an edge that it does not allow ends the story
abbrev pub if_allowed : Result Step EdgeError → (Step → List TimedFrame) → List TimedFrame
if_allowed (Ok step) next = next step
if_allowed (Err flaw) next = []

-- the frames that edges end after the edge `last` at a place, by the table's rows
abbrev pub timed_from : (look : ℕ) → (last : Edge) → BusState → List Edge → List TimedFrame
timed_from look last p [] = []
timed_from look last p (e ∷ es) =
    if_allowed (verdict last p e) (λ step. option_to_list (with_moments look step.frame step.place)
    ++ timed_from (look_with look step.place) e step.place es)

-- the frames that edges end, up to the first edge that is not allowed
unfoldable pub timed_frames : List Edge → List TimedFrame
timed_frames [] = []
timed_frames (e ∷ es) = if is_start e then timed_from 0 e (Idle 0) es else []
