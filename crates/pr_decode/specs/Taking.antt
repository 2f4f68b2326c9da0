-- Linking words: which edges a decoder has taken, and which readings it has given. The clauses of `Decoder` say all that a caller
-- needs of them. No reader needs to believe them.
use Rattle.std.specs.Prelude.{◌≡◌, ℕ, zero, suc, ◌<◌, true, false, List, [], ◌∷◌, ◌++◌, Option, Some, None}
use Rattle.std.specs.List.{filter}
use Rattle.pr_wire.specs.declared.Edge.{Edge}
use Rattle.pr_decode.specs.declared.decoder.Decoder.{Decoder}
use Rattle.pr_decode.specs.declared.reading.Opening.{Opening}
use Rattle.pr_decode.specs.declared.reading.Transfer.{Transfer}
use Rattle.pr_decode.specs.declared.reading.Reading.{Reading}
use Rattle.pr_decode.specs.declared.clock_phase.ClockPhase as declared
use Rattle.pr_decode.specs.declared.clock_phase.DataTransitions.{DataTransitions}
use Rattle.pr_decode.specs.declared.clock_phase.DataTransitions.TheVariants.{Still, Once, Twice, Thrice, Often}
use Rattle.pr_decode.specs.Readings.{Bit, acknowledgement, ends_bit, first_late, is_settled, opening_of, readings, readings_of, settled_of, transfer, turns_of}
use Rattle.pr_decode.specs.ClockPhases.{ClockPhase, stretches_from}

-- the edges at which DATA has turned, the first four
abbrev pub noted : List Edge → DataTransitions
noted [] = Still
noted (a ∷ []) = Once a
noted (a ∷ b ∷ []) = Twice a b
noted (a ∷ b ∷ c ∷ []) = Thrice a b c
noted (a ∷ b ∷ c ∷ d ∷ es) = Often a b c d

-- the stretches of bits
abbrev pub stretched : List Bit → List ClockPhase
stretched [] = []
stretched (b ∷ bs) = b.low ∷ b.high ∷ stretched bs

-- the first stretch with CLOCK pulled
abbrev pub first_low : List Bit → ClockPhase → ClockPhase
first_low [] last = last
first_low (b ∷ bs) last = b.low

-- bits after one another, and this many bits with others
abbrev pub AreBits : List Bit → ClockPhase → Type 0
AreBits [] last = Unit {0}
AreBits (b ∷ bs) last =
    (ends_bit b.high (first_low bs last) ≡ true) × (b.down ≡ (first_low bs last).first) × AreBits bs last

abbrev pub with_more : List Bit → ℕ → ℕ
with_more [] n = n
with_more (b ∷ bs) n = suc (with_more bs n)

-- what has begun before the stretch that is not ended yet
pub data Past : Type 0 where
  -- no byte
  Waiting : Past
  -- a byte: its opening, its bits, how many are left; CLOCK is pulled
  Low : (opened : ClockPhase) (o : Opening) (bits : List Bit) (left : ℕ) → Past
  -- a byte: likewise, and the stretch with CLOCK pulled before it; CLOCK is released, for a bit
  High : (opened : ClockPhase) (o : Opening) (bits : List Bit) (left : ℕ) (low : ClockPhase) → Past

-- what has been seen: what has begun, the stretch that is not ended yet, and the last edge
pub record Seen : Type 0 where
  pub past : Past
  pub current : ClockPhase
  pub last : Edge

-- the stretches since a byte began
abbrev pub whole : Past → List ClockPhase → List ClockPhase
whole Waiting ss = ss
whole (Low s o bs n) ss = s ∷ (stretched bs ++ ss)
whole (High s o bs n l) ss = s ∷ (stretched bs ++ l ∷ ss)

-- the readings that come yet
abbrev pub to_come : Past → ClockPhase → Edge → List Edge → List Reading
to_come p s last es = readings 0 (whole p (stretches_from s last es))

abbrev pub to_come_behind : Option Seen → List Edge → List Reading
to_come_behind None es = readings_of es
to_come_behind (Some s) es = to_come s.past s.current s.last es

-- what is kept of it
abbrev pub transfer_in : Past → ClockPhase → Option Transfer
transfer_in Waiting s = None
transfer_in (Low p o bs n) s = Some (transfer o (first_low bs s).first.time bs s.first.time)
transfer_in (High p o bs n l) s = Some (transfer o (first_low bs l).first.time bs l.first.time)

abbrev pub stretch_in : ClockPhase → Edge → declared.ClockPhase
stretch_in s last = record { attention = s.attention; first = s.first; last = last; turns = noted (turns_of s) }

abbrev pub kept : Option Seen → Decoder
kept None = record { stretch = None; transfer = None }
kept (Some s) = record { stretch = Some (stretch_in s.current s.last); transfer = transfer_in s.past s.current }

-- a byte has begun with an opening, and has these bits before a stretch with CLOCK pulled
pub record HasBegun (s : ClockPhase) (o : Opening) (bs : List Bit) (left : ℕ) (low : ClockPhase) : Type 0 where
  pub opens : opening_of s ≡ Some o
  pub uncalled : (first_low bs low).attention ≡ false
  pub bits : AreBits bs low
  pub eight : with_more bs left ≡ 8
  pub pulled : low.first.levels.clock ≡ false

pub record IsBit (high : ClockPhase) : Type 0 where
  pub released : high.first.levels.clock ≡ true
  pub uncalled : high.attention ≡ false
  pub in_time : first_late high.first.time high.rest ≡ None

-- what has begun has begun rightly
abbrev pub IsRight : Past → ClockPhase → Type 0
IsRight Waiting s = Unit {0}
IsRight (Low p o bs zero) s = HasBegun p o bs zero s × (acknowledgement (turns_of s) ≡ None)
IsRight (Low p o bs (suc n)) s = HasBegun p o bs (suc n) s
IsRight (High p o bs n l) s = HasBegun p o bs (suc n) l × IsBit s

abbrev pub IsRightSeen : Option Seen → Type 0
IsRightSeen None = Unit {0}
IsRightSeen (Some s) = IsRight s.past s.current

-- these edges were taken, and these readings were given: whatever edges follow, all readings are these and those that come yet
pub record HasReadings (edges : List Edge) (given : List Reading) (d : Decoder) : Type 0 where
  pub seen : Option Seen
  pub keeps : d ≡ kept seen
  pub right : IsRightSeen seen
  pub told : (more : List Edge) → readings_of (edges ++ more) ≡ given ++ to_come_behind seen more
  pub settled : filter is_settled given ≡ given

-- the moment of the edge taken last, if one was
abbrev pub time_in : Option declared.ClockPhase → Option ℕ
time_in None = None
time_in (Some s) = Some s.last.time

abbrev pub last_time : Decoder → Option ℕ
last_time d = time_in d.stretch

-- a moment comes before another, if there is one
abbrev pub StandsBefore : (time : ℕ) → (last : Option ℕ) → Type 0
StandsBefore t None = ⊥
StandsBefore t (Some last) = t < last

-- an edge comes before the one taken last
abbrev pub IsBefore : Edge → Decoder → Type 0
IsBefore e d = StandsBefore e.time (last_time d)

-- edges come in time order, after a moment if there is one
abbrev pub AreInOrder : (last : Option ℕ) → List Edge → Type 0
AreInOrder last [] = Unit {0}
AreInOrder last (e ∷ es) = (StandsBefore e.time last → ⊥) × AreInOrder (Some e.time) es

-- the moment of the last of edges, or the one before them
abbrev pub time_behind : (last : Option ℕ) → List Edge → Option ℕ
time_behind last [] = last
time_behind last (e ∷ es) = time_behind (Some e.time) es

-- edges were taken in time order, and settle nothing
pub record Passes (edges : List Edge) (old new : Decoder) : Type 0 where
  pub read : (before : List Edge) (given : List Reading) → HasReadings before given old
      → HasReadings (before ++ edges) given new
  pub order : AreInOrder (last_time old) edges
  pub last : last_time new ≡ time_behind (last_time old) edges

-- the readings given are all that the edges taken settle
abbrev pub GivenAreSettled : Type 0
GivenAreSettled =
    (edges : List Edge) (given : List Reading) (d : Decoder) → HasReadings edges given d → settled_of edges ≡ given
