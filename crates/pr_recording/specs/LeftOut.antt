-- Trusted: what a recording has that no page of it has, nor a printer's bytes: bytes that nobody acknowledged, incomplete
-- ones, the one that the recording's end cuts, and data bytes of which it does not say whom they are for.
use Rattle.std.specs.Prelude.{ℕ, ◌&&◌, nat_le, nat_lt, not, Bool, List}
use Rattle.std.specs.List.{before_first, count_by, list_any}
use Rattle.pr_base.specs.Bytes as command
use Rattle.pr_wire.specs.declared.Frame.{Frame}
use Rattle.pr_decode.specs.declared.reading.Reading.{Reading}
use Rattle.pr_decode.specs.Frames.{acknowledged_frames}
use Rattle.pr_report.specs.Summary.{is_cut, is_frame, is_incomplete, is_unacknowledged}
use Rattle.pr_recording.specs.declared.left_out.LeftOut.{LeftOut}

-- a call: a command that says who listens or talks from then on (LISTEN, UNLISTEN, TALK or UNTALK, 32 to 95)
abbrev pub is_call : Frame → Bool
is_call frame = frame.attention && (nat_le command.listen frame.byte && nat_lt frame.byte command.secondary)

-- a data byte
abbrev pub is_data : Frame → Bool
is_data frame = not frame.attention

-- how many data bytes come before the first call
abbrev pub early_bytes : List Frame → ℕ
early_bytes frames = count_by is_data (before_first is_call frames)

-- a whole byte that the recording's end cuts
abbrev pub is_cut_byte : Reading → Bool
is_cut_byte r = is_frame r && is_cut r

abbrev pub left_out_of : List Reading → LeftOut
left_out_of readings = record {
  unacknowledged = count_by is_unacknowledged readings;
  incomplete = count_by is_incomplete readings;
  has_cut = list_any is_cut_byte readings;
  early = early_bytes (acknowledged_frames readings);
}
