-- Laws: the frames that edges end, with their moments. The functions of src/laws.rt prove them, and callers take them from there.
use Rattle.std.specs.Prelude.{◌≡◌, List, ◌++◌, map}
use Rattle.pr_wire.specs.declared.Edge.{Edge}
use Rattle.pr_wire.specs.declared.Frame.{Frame}
use Rattle.pr_wire.specs.Pieces.{IsCut, Piece, Spells}
use Rattle.pr_report.specs.declared.timed_frame.TimedFrame.{TimedFrame}
use Rattle.pr_report.specs.Moments.{frame_told, timed_frames}
use Rattle.pr_report.specs.PieceMoments.{pieces_timed}

-- without their moments the frames of a lawful trace are those that it spells
abbrev pub TracesTellWhatTheySpell : Type 0
TracesTellWhatTheySpell =
    (edges : List Edge) (frames : List Frame) → Spells edges frames → map frame_told (timed_frames edges) ≡ frames

-- the frames of a lawful trace are those of its pieces, with the moments of these
abbrev pub TracesTellTheirMoments : Type 0
TracesTellTheirMoments =
    (edges : List Edge) (pieces : List Piece) → IsCut edges pieces → timed_frames edges ≡ pieces_timed pieces

-- more edges only add frames
abbrev pub MoreEdgesAddFrames : Type 0
MoreEdgesAddFrames =
    (edges more : List Edge) → (later : List TimedFrame) × (timed_frames (edges ++ more) ≡ timed_frames edges ++ later)
