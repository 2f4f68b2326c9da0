-- Trusted: the moves of a talker, as a device that is shown the lines sees them: the KERNAL's, and those of the
-- profile. Other moments may lie between any two moves, and DATA may change at any of them: only DATA's level at a
-- bit's moment counts, and what DATA does before a byte, where it is the sign of end-or-identify.
use Rattle.std.specs.Prelude.{◌≡◌, ℕ, ◌+◌, nat_lt, Bool, true, false, not, ◌&&◌, ◌||◌, if◌then◌else◌, List, [], ◌∷◌}
use Rattle.std.specs.Prelude.{◌++◌, length, map}
use Rattle.pr_wire.specs.declared.Edge.{Edge}
use Rattle.pr_wire.specs.declared.Frame.{Frame}
use Rattle.pr_wire.specs.Levels.{byte_of}

-- ATN and CLOCK have these levels at each of some moments
abbrev pub Stay : (atn clock : Bool) → List Edge → Type 0
Stay atn clock [] = Unit {0}
Stay atn clock (e ∷ es) = (e.levels.atn ≡ atn) × (e.levels.clock ≡ clock) × Stay atn clock es

-- a bit: CLOCK is released, when DATA's level is the bit, and pulled; then DATA is set to the next bit, at once or
-- later
pub record BitMoves : Type 0 where
  pub up : Edge
  pub high : List Edge
  pub down : Edge
  pub low : List Edge

-- a byte: CLOCK is released, listeners release DATA, and CLOCK is pulled; then the bits; after the last one the
-- listeners pull DATA
pub record ByteMoves : Type 0 where
  pub look : Edge
  pub opening : List Edge
  pub pull : Edge
  pub low : List Edge
  pub bits : List BitMoves

-- what happens while ATN keeps its level
pub data Turn : Type 0 where
  -- CLOCK stays released from ATN's change on
  Silent : (change : Edge) (rest : List Edge) → Turn
  -- CLOCK is pulled with ATN's change, or before it, or later (the KERNAL pulls ATN first); then bytes come, and at
  -- the end CLOCK may be released with no byte
  Talking : (released : List Edge) (pull : Edge) (pulled : List Edge) (bytes : List ByteMoves) (end : List Edge) → Turn

abbrev pub IsBit : Bool → BitMoves → Type 0
IsBit atn b = Stay atn true (b.up ∷ b.high) × Stay atn false (b.down ∷ b.low)

abbrev pub AreBits : Bool → List BitMoves → Type 0
AreBits atn [] = Unit {0}
AreBits atn (b ∷ bs) = IsBit atn b × AreBits atn bs

-- DATA is released at one of some moments
abbrev pub is_released_in : List Edge → Bool
is_released_in [] = false
is_released_in (e ∷ es) = e.levels.line || is_released_in es

pub record IsByte (atn : Bool) (m : ByteMoves) : Type 0 where
  pub opened : Stay atn true (m.look ∷ m.opening)
  pub released : is_released_in m.opening ≡ true
  pub pulled : Stay atn false (m.pull ∷ m.low)
  pub bits : AreBits atn m.bits
  pub eight : length m.bits ≡ 8

abbrev pub AreBytes : Bool → List ByteMoves → Type 0
AreBytes atn [] = Unit {0}
AreBytes atn (m ∷ ms) = IsByte atn m × AreBytes atn ms

abbrev pub IsTurn : Bool → Turn → Type 0
IsTurn atn (Silent change rest) = Stay atn true (change ∷ rest)
IsTurn atn (Talking released pull pulled bytes end) =
    Stay atn true released × Stay atn false (pull ∷ pulled) × AreBytes atn bytes × Stay atn true end

-- ATN changes between each two turns
abbrev pub AreTurns : Bool → List Turn → Type 0
AreTurns atn [] = Unit {0}
AreTurns atn (t ∷ ts) = IsTurn atn t × AreTurns (not atn) ts

-- the moments of moves, in the order in which they come
abbrev pub bit_moments : BitMoves → List Edge
bit_moments b = (b.up ∷ b.high) ++ (b.down ∷ b.low)

abbrev pub all_bits : List BitMoves → List Edge
all_bits [] = []
all_bits (b ∷ bs) = bit_moments b ++ all_bits bs

abbrev pub byte_moments : ByteMoves → List Edge
byte_moments m = (m.look ∷ m.opening) ++ ((m.pull ∷ m.low) ++ all_bits m.bits)

abbrev pub all_bytes : List ByteMoves → List Edge
all_bytes [] = []
all_bytes (m ∷ ms) = byte_moments m ++ all_bytes ms

abbrev pub turn_moments : Turn → List Edge
turn_moments (Silent change rest) = change ∷ rest
turn_moments (Talking released pull pulled bytes end) = released ++ ((pull ∷ pulled) ++ (all_bytes bytes ++ end))

abbrev pub moments_of : List Turn → List Edge
moments_of [] = []
moments_of (t ∷ ts) = turn_moments t ++ moments_of ts

-- DATA has been released since this moment, and is pulled again, or stays released for the wait
abbrev pub is_answered_from : (wait free : ℕ) → List Edge → Bool
is_answered_from wait free [] = false
is_answered_from wait free (e ∷ es) =
    (not e.levels.line || not (nat_lt e.time (free + wait))) || is_answered_from wait free es

-- the listeners answer end-or-identify: DATA is released, and then pulled again, or stays released for the wait
abbrev pub is_answered_in : (wait : ℕ) → List Edge → Bool
is_answered_in wait [] = false
is_answered_in wait (e ∷ es) = if e.levels.line then is_answered_from wait e.time es else is_answered_in wait es

-- the byte that a talker sends: the levels of DATA at its bits' moments, the lowest bit first
abbrev pub frame_sent : (wait : ℕ) → Bool → ByteMoves → Frame
frame_sent wait atn m = record {
  attention = not atn;
  byte = byte_of (map (λ (b : BitMoves). b.up.levels.line) m.bits);
  eoi = atn && is_answered_in wait m.opening;
}

abbrev pub turn_frames : (wait : ℕ) → Bool → Turn → List Frame
turn_frames wait atn (Silent change rest) = []
turn_frames wait atn (Talking released pull pulled bytes end) = map (frame_sent wait atn) bytes

abbrev pub frames_sent : (wait : ℕ) → Bool → List Turn → List Frame
frames_sent wait atn [] = []
frames_sent wait atn (t ∷ ts) = turn_frames wait atn t ++ frames_sent wait (not atn) ts
