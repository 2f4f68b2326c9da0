-- Trusted: the last lines of the report on a recording in which no byte is acknowledged, attention never comes or a line
-- rests at 0: what is odd, and what to try.
use Rattle.std.specs.Prelude.{ℕ, not, ◌||◌, Bool, true, false, List, [], ◌∷◌, ◌++◌, Option, Some, None, codes, if◌then◌else◌}
use Rattle.std.specs.List.{list_any}
use Rattle.pr_capture.specs.declared.format.InputFormat.{InputFormat}
use Rattle.pr_capture.specs.declared.format.InputFormat.TheVariants.{Csv, Text, Vcd}
use Rattle.pr_capture.specs.declared.format.TraceInput.{TraceInput}
use Rattle.pr_capture.specs.Recording.{inverts_any}
use Rattle.pr_wire.specs.declared.Edge.{Edge}
use Rattle.pr_wire.specs.declared.Levels.{Levels}
use Rattle.pr_decode.specs.declared.reading.FrameEnd.TheVariants.{Acknowledged, Cut, Unacknowledged}
use Rattle.pr_decode.specs.declared.reading.Reading.{Reading}
use Rattle.pr_decode.specs.declared.reading.Reading.TheVariants.{Frame, IncompleteByte}
use Rattle.pr_report.specs.BriefPulses.{brief_count}
use Rattle.pr_report.specs.declared.oddities.Oddities.{Oddities}

-- a reading is an acknowledged byte
abbrev pub is_acknowledged : Reading → Bool
is_acknowledged (Frame t (Acknowledged k)) = true
is_acknowledged (Frame t (Unacknowledged k)) = false
is_acknowledged (Frame t Cut) = false
is_acknowledged (IncompleteByte t end) = false

-- attention comes: ATN is pulled
abbrev pub is_attention : Edge → Bool
is_attention e = not e.levels.atn

-- the levels with which a recording begins, and those with which it ends
abbrev pub first_levels : List Edge → Option Levels
first_levels [] = None
first_levels (e ∷ es) = Some e.levels

abbrev pub levels_after : Levels → List Edge → Levels
levels_after l [] = l
levels_after l (e ∷ es) = levels_after e.levels es

abbrev pub last_levels : List Edge → Option Levels
last_levels [] = None
last_levels (e ∷ es) = Some (levels_after e.levels es)

-- what is odd: a line rests at 0 where the recording begins and ends with it at 0
abbrev pub nothing_rests : (no_byte no_attention : Bool) → (brief : ℕ) → Oddities
nothing_rests no_byte no_attention brief = record {
  no_byte = no_byte;
  no_attention = no_attention;
  atn_rests = false;
  clock_rests = false;
  data_rests = false;
  brief = brief;
}

abbrev pub odd_levels : (no_byte no_attention : Bool) → (brief : ℕ) → (first last : Option Levels) → Oddities
odd_levels no_byte no_attention brief None last = nothing_rests no_byte no_attention brief
odd_levels no_byte no_attention brief (Some a) None = nothing_rests no_byte no_attention brief
odd_levels no_byte no_attention brief (Some a) (Some b) = record {
  no_byte = no_byte;
  no_attention = no_attention;
  brief = brief;
  atn_rests = not (a.atn || b.atn);
  clock_rests = not (a.clock || b.clock);
  data_rests = not (a.line || b.line);
}

-- what is odd about edges that say these readings, and how many brief pulses they have, of which no line of the report speaks
abbrev pub oddities_of : List Edge → List Reading → Oddities
oddities_of es rs =
    odd_levels (not (list_any is_acknowledged rs)) (not (list_any is_attention es)) (brief_count es)
    (first_levels es) (last_levels es)

-- a line of text, if something is so
abbrev pub told_if : Bool → (line : List ℕ) → List ℕ
told_if b line = if b then line else []

abbrev pub is_odd : Oddities → Bool
is_odd o = o.no_byte || o.no_attention || o.atn_rests || o.clock_rests || o.data_rests

-- what to try of signals: the levels the other way round, or other signals; acknowledged bytes are there to be looked at,
-- since a good recording may begin and end within a transfer
abbrev pub other_signals : (no_byte is_inverted : Bool) → List ℕ
other_signals no_byte is_inverted =
    told_if (not no_byte) (codes "if the bytes make no sense, ")
    ++ told_if is_inverted (codes "try without --invert, or other signals with --names\n")
    ++ told_if (not is_inverted) (codes "try --invert for probes behind inverters, or other signals with --names\n")

-- a trace text has neither probes nor other signals
abbrev pub to_try : InputFormat → (no_byte is_inverted : Bool) → List ℕ
to_try Text no_byte is_inverted =
    codes "in a trace text the levels are those of ATN, CLOCK and DATA, and 1 is released\n"
to_try Vcd no_byte is_inverted = other_signals no_byte is_inverted
to_try Csv no_byte is_inverted = other_signals no_byte is_inverted

-- the same, if anything is odd
abbrev pub advice : TraceInput → Oddities → List ℕ
advice input o = told_if (is_odd o) (to_try input.source o.no_byte (inverts_any input.signals.probes))

-- the lines, of a recording that is read so
abbrev pub oddities_text : TraceInput → Oddities → List ℕ
oddities_text input o =
    told_if o.no_byte (codes "no byte is acknowledged\n")
    ++ told_if o.no_attention (codes "attention never comes: ATN is not pulled\n")
    ++ told_if o.atn_rests (codes "ATN rests at 0\n")
    ++ told_if o.clock_rests (codes "CLOCK rests at 0\n")
    ++ told_if o.data_rests (codes "DATA rests at 0\n")
    ++ advice input o
