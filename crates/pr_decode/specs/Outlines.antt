-- Trusted: what counts of the stretches of a recording. For each stretch: when it begins, and
-- whether a pull of ATN begins it; where CLOCK is released also DATA's level then (a bit), and the
-- first edge that was too late for a bit. For each stretch outside the bits of a byte also its
-- opening, if it is one, with the acknowledgement after eight bits. DATA counts nowhere else. (This
-- is a little more than readings need: the stretch after eight bits where a byte has fewer, and
-- DATA's level and the first late edge where CLOCK is released for no bit.)
use Rattle.std.specs.Prelude.{ℕ, zero, suc, Bool, List, [], ◌∷◌, Option, Some, None, if◌then◌else◌}
use Rattle.pr_decode.specs.declared.reading.Opening.{Opening}
use Rattle.pr_decode.specs.declared.reading.Reading.{Reading}
use Rattle.pr_decode.specs.Readings.{acknowledgement, begins, first_late, opening_of, turns_of}
use Rattle.pr_decode.specs.ClockPhases.{ClockPhase}

-- what counts where CLOCK is released
pub record Released : Type 0 where
  pub level : Bool
  pub late : Option ℕ

pub record Outline : Type 0 where
  pub attention : Bool
  pub time : ℕ
  pub released : Option Released

abbrev pub outline : ClockPhase → Outline
outline s = record {
  attention = s.attention;
  time = s.first.time;
  released = if s.first.levels.clock
      then Some (record { level = s.first.levels.line; late = first_late s.first.time s.rest }) else None;
}

-- the acknowledgement in the stretch after n others
abbrev pub acknowledged_behind : ℕ → List ClockPhase → Option ℕ
acknowledged_behind n [] = None
acknowledged_behind zero (s ∷ ss) = acknowledgement (turns_of s)
acknowledged_behind (suc n) (s ∷ ss) = acknowledged_behind n ss

-- an opening, with the acknowledgement after eight bits, each of two stretches
abbrev pub with_acknowledgement : Option Opening → List ClockPhase → Option (Opening × Option ℕ)
with_acknowledgement None ss = None
with_acknowledgement (Some o) ss = Some (o, acknowledged_behind 16 ss)

-- the number of stretches that are bits of a reading
abbrev pub taken_by : Option (Reading × ℕ) → ℕ
taken_by None = 0
taken_by (Some r) = r.1

-- the openings among stretches, after those that belong to a byte
abbrev pub openings : (taken : ℕ) → List ClockPhase → List (Option (Opening × Option ℕ))
openings n [] = []
openings (suc n) (s ∷ ss) = openings n ss
openings zero (s ∷ ss) = with_acknowledgement (opening_of s) ss ∷ openings (taken_by (begins s ss)) ss
