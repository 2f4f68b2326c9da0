-- Trusted: the frames of a trace that is cut into whole pieces, each with the moments of its piece.
use Rattle.std.specs.Prelude.{ℕ, List, [], ◌∷◌, ◌++◌, Option, Some, None}
use Rattle.pr_wire.specs.declared.bus_state.ByteRole.{ByteRole}
use Rattle.pr_wire.specs.declared.bus_state.ByteRole.TheVariants.{First, Second, Data}
use Rattle.pr_wire.specs.Pieces.{FrameTimes, Piece, SecondFrame, byte_sent, has_pulse}
use Rattle.pr_wire.specs.Pieces.Piece.{Attention, DataByte}
use Rattle.pr_report.specs.declared.timed_frame.TimedFrame.{TimedFrame}

-- a frame of a piece, with the release of CLOCK before it
abbrev pub frame_timed : ByteRole → (look : ℕ) → FrameTimes → TimedFrame
frame_timed s look f =
    record { look = look; acknowledged = f.ack; sending = s; byte = byte_sent f; eoi = has_pulse f.pulse }

-- the frames of a piece
abbrev pub second_timed : Option SecondFrame → List TimedFrame
second_timed None = []
second_timed (Some m) = frame_timed Second m.look m.sent ∷ []

abbrev pub piece_timed : Piece → List TimedFrame
piece_timed (Attention a answer look first second end) = frame_timed First look first ∷ second_timed second
piece_timed (DataByte look sent) = frame_timed Data look sent ∷ []
piece_timed _ = []

-- the frames of pieces
abbrev pub pieces_timed : List Piece → List TimedFrame
pieces_timed [] = []
pieces_timed (p ∷ ps) = piece_timed p ++ pieces_timed ps
