-- Trusted: the volts that a cell of a table spells, and the level that they are by a threshold.
use Rattle.std.specs.Prelude.{ℕ, ◌==◌, ◌&&◌, ◌||◌, Bool, not, nat_le, List, Option, Some, None, if◌then◌else◌}
use Rattle.pr_capture.specs.declared.times.Instant.{Instant}
use Rattle.pr_capture.specs.declared.volts.Threshold.{Threshold}
use Rattle.pr_capture.specs.declared.volts.Volts.{Volts}
use Rattle.pr_capture.specs.TableTimes.{behind_plus_minus, is_minus, unsigned_in}

-- a number in millionths, rounded down, as times are
abbrev pub volts_of : Option Instant → Option Volts
volts_of None = None
volts_of (Some i) = Some (record { is_negative = i.is_negative; micros = i.micros })

-- the volts that a field spells: a sign, digits, decimals and an exponent, as those of a time
abbrev pub volts_in : (separator : ℕ) → List ℕ → Option Volts
volts_in sep l = volts_of (unsigned_in sep 0 (is_minus l) (behind_plus_minus l))

-- a voltage is at least another one; -0 is 0
abbrev pub is_at_least : (volts least : Volts) → Bool
is_at_least v l =
    if v.is_negative then (if l.is_negative then nat_le v.micros l.micros else v.micros == 0 && l.micros == 0)
    else l.is_negative || nat_le l.micros v.micros

-- the level of a line: 1 from the threshold's high voltage on, 0 below its low one, and between them what it was before
abbrev pub level_by : (inverted before : Bool) → Threshold → Volts → Bool
level_by inverted before t v =
    if is_at_least v t.high then not inverted else (if is_at_least v t.low then before else inverted)
