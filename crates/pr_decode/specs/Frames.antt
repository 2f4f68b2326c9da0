-- Trusted: the frames of readings that listeners have taken.
use Rattle.std.specs.Prelude.{List, Option, Some, None}
use Rattle.std.specs.List.{filter_map}
use Rattle.pr_wire.specs.declared.Frame.{Frame}
use Rattle.pr_decode.specs.declared.reading.FrameEnd.TheVariants.{Acknowledged, Unacknowledged, Cut}
use Rattle.pr_decode.specs.declared.reading.Reading.{Reading}
use Rattle.pr_decode.specs.declared.reading.Reading.TheVariants as read
use Rattle.pr_decode.specs.PieceReadings.{is_answered}

-- the frame of a reading that is a whole byte, acknowledged; no listener has taken any other
abbrev pub acknowledged_frame : Reading → Option Frame
acknowledged_frame (read.Frame t (Acknowledged time)) =
    Some (record { attention = t.opening.command; byte = t.byte; eoi = is_answered t.opening.pulse })
acknowledged_frame (read.Frame t (Unacknowledged time)) = None
acknowledged_frame (read.Frame t Cut) = None
acknowledged_frame (read.IncompleteByte t end) = None

-- the frames of readings, in order
abbrev pub acknowledged_frames : List Reading → List Frame
acknowledged_frames readings = filter_map acknowledged_frame readings
