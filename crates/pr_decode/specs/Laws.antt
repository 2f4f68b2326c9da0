-- Laws: what recordings say. The functions of src/laws.rt prove them, and callers take them from there.
use Rattle.std.specs.Prelude.{◌≡◌, List, ◌++◌, Option, map}
use Rattle.std.specs.Option.{option_to_list}
use Rattle.pr_wire.specs.declared.Edge.{Edge}
use Rattle.pr_wire.specs.declared.Frame.{Frame}
use Rattle.pr_wire.specs.Pieces.{IsCut, Piece, Spells}
use Rattle.pr_decode.specs.declared.reading.Reading.{Reading}
use Rattle.pr_decode.specs.Frames.{acknowledged_frames}
use Rattle.pr_decode.specs.Outlines.{openings, outline}
use Rattle.pr_decode.specs.PieceReadings.{frames_in, pieces_read}
use Rattle.pr_decode.specs.Readings.{readings_of, settled_of}
use Rattle.pr_decode.specs.ClockPhases.{stretches}

-- more edges only add readings
abbrev pub MoreEdgesAddReadings : Type 0
MoreEdgesAddReadings =
    (edges more : List Edge) → (later : List Reading) × (settled_of (edges ++ more) ≡ settled_of edges ++ later)

-- at most one reading is cut by the end of the recording, the last
abbrev pub OnlyTheLastIsCut : Type 0
OnlyTheLastIsCut =
    (edges : List Edge) → (cut : Option Reading) × (readings_of edges ≡ settled_of edges ++ option_to_list cut)

-- nothing counts but outlines and openings: recordings with the same ones say the same. So in the bits of a byte DATA counts only
-- where CLOCK is released for them
abbrev pub OutlinesDecide : Type 0
OutlinesDecide =
    (a b : List Edge) → map outline (stretches a) ≡ map outline (stretches b) → openings 0 (stretches a)
    ≡ openings 0 (stretches b)
    → readings_of a ≡ readings_of b

-- a lawful trace says the frames of its pieces, with the moments of these, and nothing else
abbrev pub TracesSayTheirPieces : Type 0
TracesSayTheirPieces =
    (edges : List Edge) (pieces : List Piece) → IsCut edges pieces → readings_of edges ≡ pieces_read pieces

-- without their moments they are those that it spells
abbrev pub TracesSayWhatTheySpell : Type 0
TracesSayWhatTheySpell =
    (edges : List Edge) (frames : List Frame) → Spells edges frames → frames_in (readings_of edges) ≡ frames

-- listeners have taken them all
abbrev pub TracesAreAcknowledged : Type 0
TracesAreAcknowledged =
    (edges : List Edge) (frames : List Frame) → Spells edges frames → acknowledged_frames (readings_of edges) ≡ frames
