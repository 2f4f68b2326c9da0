-- Trusted: the text of readings: a line for each, and below it, if they are asked for, a line for each interval outside
-- its bounds.
use Rattle.std.specs.Prelude.{ℕ, Bool, true, false, List, [], ◌∷◌, ◌++◌, Option, Some, None, is_some, codes, if◌then◌else◌}
use Rattle.pr_wire.specs.declared.bus_state.ByteRole.{ByteRole}
use Rattle.pr_wire.specs.declared.bus_state.ByteRole.TheVariants.{First, Second, Data}
use Rattle.pr_report.specs.declared.timed_frame.TimedFrame.{TimedFrame}
use Rattle.pr_report.specs.StoryText.{frame_line}
use Rattle.pr_decode.specs.declared.reading.Transfer.{Transfer}
use Rattle.pr_decode.specs.declared.reading.FrameEnd.{FrameEnd}
use Rattle.pr_decode.specs.declared.reading.FrameEnd.TheVariants as frame
use Rattle.pr_decode.specs.declared.reading.IncompleteEnd.{IncompleteEnd}
use Rattle.pr_decode.specs.declared.reading.IncompleteEnd.TheVariants as glitch
use Rattle.pr_decode.specs.declared.reading.Reading.{Reading}
use Rattle.pr_decode.specs.declared.reading.Reading.TheVariants.{Frame, IncompleteByte}
use Rattle.pr_report.specs.declared.detail.Bounds.{Bounds}
use Rattle.pr_report.specs.declared.detail.Detail.{Detail}
use Rattle.pr_report.specs.declared.interval.Interval.{Interval}
use Rattle.pr_report.specs.declared.context.Context.{Context}
use Rattle.pr_report.specs.declared.context.Preceding.{Preceding}
use Rattle.pr_report.specs.declared.context.Talker.{Talker}
use Rattle.pr_report.specs.declared.context.Talker.TheVariants as talker
use Rattle.pr_report.specs.Contexts.{after_reading, is_behind_data, sending_of}
use Rattle.pr_report.specs.Intervals.{intervals, is_outside, length_of, measure}
use Rattle.pr_report.specs.Numbers.{numbered}

-- an acknowledged byte as a frame of the story
abbrev pub story_frame : Preceding → Transfer → (acknowledged : ℕ) → TimedFrame
story_frame b t k =
    let sent : ByteRole = sending_of b t.opening.command t.byte in
    record {
      look = t.opening.ready_to_send;
      acknowledged = k;
      sending = sent;
      byte = t.byte;
      eoi = is_some t.opening.pulse;
    }

-- the line before data bytes
abbrev pub data_heading : Talker → List ℕ
data_heading (talker.Device device) = numbered (codes "data from ") device ++ codes "\n"
data_heading t = codes "data\n"

-- the line before each attention, and before data bytes that follow no data byte
abbrev pub byte_heading : Context → ByteRole → List ℕ
byte_heading c First = codes "attention\n"
byte_heading c Second = []
byte_heading c Data = if is_behind_data c.last then [] else data_heading c.talker

-- the lines of an acknowledged byte: a printer's codes have their names while a printer listens
abbrev pub byte_lines : Context → TimedFrame → List ℕ
byte_lines c f = byte_heading c f.sending ++ frame_line c.printer_listens f

-- the words for a byte that is not acknowledged: what it is, and its look
abbrev pub byte_word : (is_command : Bool) → List ℕ
byte_word is_command = if is_command then codes "command " else codes "byte "

abbrev pub byte_place : Transfer → List ℕ
byte_place t =
    numbered (byte_word t.opening.command) t.byte ++ numbered (codes " at ") t.opening.ready_to_send
    ++ codes " us"

-- the words for an incomplete byte: its look, and the number of its bits
abbrev pub incomplete_place : Transfer → List ℕ
incomplete_place t = numbered (codes "glitch at ") t.opening.ready_to_send ++ numbered (codes " us, bits ") t.bits

-- the end of a line with a moment, and the end of a line that the recording's end cuts
abbrev pub moment_end : List ℕ → (time : ℕ) → List ℕ
moment_end word time = numbered word time ++ codes " us\n"

abbrev pub cut_end : List ℕ
cut_end = codes ", cut by the recording's end\n"

-- the lines of a whole byte
abbrev pub frame_text : Context → Transfer → FrameEnd → List ℕ
frame_text c t (frame.Acknowledged k) = byte_lines c (story_frame c.last t k)
frame_text c t (frame.Unacknowledged k) =
    byte_place t ++ moment_end (codes ", not acknowledged, given up at ") k
frame_text c t frame.Cut = byte_place t ++ cut_end

-- what ends an incomplete byte
abbrev pub incomplete_end : IncompleteEnd → List ℕ
incomplete_end (glitch.Attention k) = moment_end (codes ", ended by ATN at ") k
incomplete_end (glitch.ClockTimeout k) = moment_end (codes ", CLOCK released too long at ") k
incomplete_end glitch.Cut = cut_end

-- the line of a reading
abbrev pub line_of : Context → Reading → List ℕ
line_of c (Frame t end) = frame_text c t end
line_of c (IncompleteByte t end) = incomplete_place t ++ incomplete_end end

-- the line of an interval, if it is outside these bounds
abbrev pub outside_text : Bounds → Interval → ℕ → List ℕ
outside_text bounds i n = codes "    " ++ measure bounds i n

abbrev pub outside_line : Bounds → Interval → Option ℕ → List ℕ
outside_line bounds i None = []
outside_line bounds i (Some n) = if is_outside bounds i n then outside_text bounds i n else []

abbrev pub outside_lines : Bounds → List Interval → Reading → List ℕ
outside_lines bounds [] r = []
outside_lines bounds (i ∷ is) r = outside_line bounds i (length_of i r) ++ outside_lines bounds is r

-- those of a reading, if they are asked for
abbrev pub lines_if : Bool → Bounds → Reading → List ℕ
lines_if true bounds r = outside_lines bounds intervals r
lines_if false bounds r = []

-- the lines of a reading
unfoldable pub reading_lines : Detail → Context → Reading → List ℕ
reading_lines d c r = line_of c r ++ lines_if d.intervals d.bounds r

-- the lines of readings
abbrev pub all_lines : Detail → Context → List Reading → List ℕ
all_lines d c [] = []
all_lines d c (r ∷ rs) = reading_lines d c r ++ all_lines d (after_reading c r) rs
