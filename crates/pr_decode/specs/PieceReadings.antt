-- Trusted: what a trace that is cut into whole pieces says: its frames, each with the moments of its piece.
use Rattle.std.specs.Prelude.{ℕ, ◌-◌, Bool, true, false, not, List, [], ◌∷◌, ◌++◌, Option, Some, None}
use Rattle.pr_wire.specs.declared.Frame.{Frame}
use Rattle.pr_wire.specs.Pieces.{BitTimes, EoiAnswer, FrameTimes, Piece, SecondFrame, byte_sent, last_pull}
use Rattle.pr_wire.specs.Pieces.Piece.{Attention, DataByte}
use Rattle.pr_decode.specs.declared.reading.FrameEnd.TheVariants.{Acknowledged}
use Rattle.pr_decode.specs.declared.reading.Pulse.{Pulse}
use Rattle.pr_decode.specs.declared.reading.Reading.{Reading}
use Rattle.pr_decode.specs.declared.reading.Reading.TheVariants as read
use Rattle.pr_decode.specs.Readings.{halves}

-- for how long CLOCK is pulled in each bit, from its first pull on, and for how long it is released
abbrev pub low_times : (pull : ℕ) → List BitTimes → List ℕ
low_times c [] = []
low_times c (b ∷ bs) = (b.up - c) ∷ low_times b.down bs

abbrev pub high_times : List BitTimes → List ℕ
high_times [] = []
high_times (b ∷ bs) = (b.down - b.up) ∷ high_times bs

abbrev pub pulse_read : Option EoiAnswer → Option Pulse
pulse_read None = None
pulse_read (Some p) = Some (record { pulled = p.pulled; released = p.released })

-- a frame of a piece, with ATN's level and the release of CLOCK before it
abbrev pub frame_read : (atn : Bool) → (look : ℕ) → FrameTimes → Reading
frame_read atn look f = read.Frame (record {
  opening = record { command = not atn; ready_to_send = look; ready_for_data = f.free; pulse = pulse_read f.pulse };
  pull = f.pull;
  bits = 8;
  byte = byte_sent f;
  low = halves (low_times f.pull f.bits);
  high = halves (high_times f.bits);
  last_pull = last_pull f.pull f.bits;
}) (Acknowledged f.ack)

-- the frames of a piece
abbrev pub second_read : Option SecondFrame → List Reading
second_read None = []
second_read (Some m) = frame_read false m.look m.sent ∷ []

abbrev pub piece_read : Piece → List Reading
piece_read (Attention a answer look first second end) = frame_read false look first ∷ second_read second
piece_read (DataByte look sent) = frame_read true look sent ∷ []
piece_read p = []

-- the frames of pieces
abbrev pub pieces_read : List Piece → List Reading
pieces_read [] = []
pieces_read (p ∷ ps) = piece_read p ++ pieces_read ps

-- end-or-identify was answered by a pulse
abbrev pub is_answered : Option Pulse → Bool
is_answered None = false
is_answered (Some p) = true

-- the frames of readings, without their moments
abbrev pub frames_in : List Reading → List Frame
frames_in [] = []
frames_in (read.Frame t end ∷ rs) =
    record { attention = t.opening.command; byte = t.byte; eoi = is_answered t.opening.pulse } ∷ frames_in rs
frames_in (read.IncompleteByte t end ∷ rs) = frames_in rs
