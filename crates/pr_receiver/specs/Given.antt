-- Trusted: which frame an edge ends, as the table of lawful traces says, and which input comes with an edge.
use Rattle.std.specs.Prelude.{ℕ, List, [], ◌∷◌, Option, Some, None, Result, Ok, Err, if◌then◌else◌}
use Rattle.std.specs.List.{flat_map}
use Rattle.std.specs.Option.{option_to_list}
use Rattle.pr_wire.specs.declared.Edge.{Edge}
use Rattle.pr_wire.specs.declared.Frame.{Frame}
use Rattle.pr_wire.specs.declared.bus_state.EdgeError.{EdgeError}
use Rattle.pr_wire.specs.declared.bus_state.BusState.{BusState}
use Rattle.pr_wire.specs.declared.bus_state.BusState.TheVariants.{Idle}
use Rattle.pr_wire.specs.declared.bus_state.Step.{Step}
use Rattle.pr_wire.specs.Table.{verdict, is_start}
use Rattle.pr_page.specs.Before.{with_before}
use Rattle.pr_page.specs.declared.input.Input.{Input}
use Rattle.pr_receiver.specs.Heard.{input_of}

-- the frame of an edge that the table allows; any other edge ends none
abbrev pub if_allowed : Result Step EdgeError → (Step → Option Frame) → Option Frame
if_allowed (Ok step) next = next step
if_allowed (Err flaw) next = None

-- the frame that an edge ends after these edges, which follow the edge `last` at the place `p`: the
-- frame of the table's row for it
abbrev pub frame_from : Edge → BusState → List Edge → Edge → Option Frame
frame_from last p [] edge = if_allowed (verdict last p edge) (λ step. step.frame)
frame_from last p (e ∷ es) edge = if_allowed (verdict last p e) (λ step. frame_from e step.place es edge)

-- the frame that an edge ends, with its acknowledgement, after the edges before it; the first edge
-- ends none, nor does an edge after edges that are not allowed
abbrev pub frame_at : List Edge → Edge → Option Frame
frame_at [] edge = None
frame_at (e ∷ es) edge = if is_start e then frame_from e (Idle 0) es edge else None

-- the frames that edges end, in order
abbrev pub frames_ended : List Edge → List Frame
frames_ended edges = flat_map (λ p. option_to_list (frame_at p.0 p.1)) (with_before [] edges)

-- what a frame, if there is one, gives a device, after the frames before it
abbrev pub input_of_any : ℕ → List Frame → Option Frame → Option Input
input_of_any device before None = None
input_of_any device before (Some frame) = input_of device before frame

-- the input that comes with an edge: what the frame that it ends gives the device; any other edge gives none
abbrev pub input_at : ℕ → List Edge → Edge → Option Input
input_at device before edge = input_of_any device (frames_ended before) (frame_at before edge)

-- the inputs that come with edges, edge by edge, after other edges
abbrev pub inputs_behind : ℕ → List Edge → List Edge → List Input
inputs_behind device before edges = flat_map (λ p. option_to_list (input_at device p.0 p.1)) (with_before before edges)

-- the inputs that come with edges, edge by edge
abbrev pub inputs_with : ℕ → List Edge → List Input
inputs_with device edges = inputs_behind device [] edges
