-- Trusted: what a recording says: the bytes among its stretches. A byte is an opening, in which
-- CLOCK is released and DATA is pulled and then released, and then eight bits, in each of which
-- CLOCK is pulled and then released; CLOCK's next pull ends it.
use Rattle.std.specs.Prelude.{ℕ, zero, suc, ◌-◌, ◌==◌, nat_lt, min, max, Bool, true, false, not, ◌&&◌, ◌||◌, List, [], ◌∷◌, ◌++◌, length, map, Option, Some, None, if◌then◌else◌}
use Rattle.std.specs.List.{filter}
use Rattle.pr_wire.specs.declared.Edge.{Edge}
use Rattle.pr_wire.specs.Levels.{byte_of}
use Rattle.pr_wire.specs.Table.{same}
use Rattle.pr_decode.specs.declared.reading.Opening.{Opening}
use Rattle.pr_decode.specs.declared.reading.Halves.{Halves}
use Rattle.pr_decode.specs.declared.reading.Transfer.{Transfer}
use Rattle.pr_decode.specs.declared.reading.FrameEnd.{FrameEnd}
use Rattle.pr_decode.specs.declared.reading.FrameEnd.TheVariants as frame
use Rattle.pr_decode.specs.declared.reading.IncompleteEnd.{IncompleteEnd}
use Rattle.pr_decode.specs.declared.reading.IncompleteEnd.TheVariants as glitch
use Rattle.pr_decode.specs.declared.reading.Reading.{Reading}
use Rattle.pr_decode.specs.declared.reading.Reading.TheVariants.{Frame, IncompleteByte}
use Rattle.pr_decode.specs.ClockPhases.{ClockPhase, edges_in, stretches}

-- for how many microseconds CLOCK may be released in a bit
abbrev pub longest_bit : ℕ
longest_bit = 1000

-- the edges at which DATA turns: the first with this level, the first after it with the other, and so on
abbrev pub turns : Bool → List Edge → List Edge
turns level [] = []
turns level (e ∷ es) = if same e.levels.line level then e ∷ turns (not level) es else turns level es

-- where DATA turns in a stretch: to pulled first where CLOCK is released, to released first where CLOCK is pulled
abbrev pub turns_of : ClockPhase → List Edge
turns_of s = turns (not s.first.levels.clock) (edges_in s)

-- an opening: DATA is pulled (ready to send) and released (ready for data), and perhaps pulled and
-- released again (end-or-identify)
abbrev pub opening : List Edge → Option Opening
opening (l ∷ r ∷ p ∷ f ∷ es) = Some (record {
  command = not r.levels.atn;
  ready_to_send = l.time;
  ready_for_data = r.time;
  pulse = Some (record { pulled = p.time; released = f.time });
})
opening (l ∷ r ∷ es) =
    Some (record { command = not r.levels.atn; ready_to_send = l.time; ready_for_data = r.time; pulse = None })
opening es = None

-- the opening in a stretch where CLOCK is released; there is none where a pull of ATN begins the stretch
abbrev pub opening_of : ClockPhase → Option Opening
opening_of s = if s.attention then None else (if s.first.levels.clock then opening (turns_of s) else None)

-- an edge is too late for a bit, since CLOCK was released
abbrev pub is_late : (since : ℕ) → Edge → Bool
is_late since e = nat_lt longest_bit (e.time - since)

-- the moment of the first edge that is too late
abbrev pub first_late : (since : ℕ) → List Edge → Option ℕ
first_late since [] = None
first_late since (e ∷ es) = if is_late since e then Some e.time else first_late since es

abbrev pub is_none : Option ℕ → Bool
is_none None = true
is_none (Some t) = false

-- a stretch with CLOCK released ends a bit, if the next stretch begins in time and no pull of ATN
-- begins either; CLOCK is pulled in the next one, since its level changes there
abbrev pub ends_bit : (high next : ClockPhase) → Bool
ends_bit high next =
    not high.attention && not next.attention && is_none (first_late high.first.time (high.rest ++ next.first ∷ []))

-- a bit: CLOCK pulled, CLOCK released, and the edge that pulls it again
pub record Bit : Type 0 where
  pub low : ClockPhase
  pub high : ClockPhase
  pub down : Edge

-- the bits of a byte, the stretch with CLOCK pulled after them, and what follows that
pub record Bits : Type 0 where
  pub bits : List Bit
  pub last : ClockPhase
  pub behind : List ClockPhase

-- one more bit in front of others
abbrev pub put_bit : Bit → Bits → Bits
put_bit b more = record more { bits = b ∷ more.bits }

-- the bits from a stretch with CLOCK pulled on, at most this number
abbrev pub bits_from : (most : ℕ) → ClockPhase → List ClockPhase → Bits
bits_from (suc n) low (high ∷ next ∷ ss) =
    if ends_bit high next
    then put_bit (record { low = low; high = high; down = next.first }) (bits_from n next ss)
    else record { bits = []; last = low; behind = high ∷ next ∷ ss }
bits_from n low ss = record { bits = []; last = low; behind = ss }

-- the level of a bit: that of DATA when CLOCK is released
abbrev pub level_of : Bit → Bool
level_of b = b.high.first.levels.line

-- for how long CLOCK is pulled in a bit, and for how long it is released
abbrev pub low_half : Bit → ℕ
low_half b = b.high.first.time - b.low.first.time

abbrev pub high_half : Bit → ℕ
high_half b = b.down.time - b.high.first.time

-- the least and the greatest of some numbers
abbrev pub least : ℕ → List ℕ → ℕ
least n [] = n
least n (m ∷ ms) = least (min n m) ms

abbrev pub greatest : ℕ → List ℕ → ℕ
greatest n [] = n
greatest n (m ∷ ms) = greatest (max n m) ms

abbrev pub halves : List ℕ → Halves
halves [] = record { shortest = 0; longest = 0 }
halves (n ∷ ns) = record { shortest = least n ns; longest = greatest n ns }

-- a byte as far as it came: its opening, CLOCK's first pull, its bits, and CLOCK's last pull
abbrev pub transfer : Opening → (pull : ℕ) → List Bit → (last_pull : ℕ) → Transfer
transfer o pull bs last_pull = record {
  opening = o;
  pull = pull;
  bits = length bs;
  byte = byte_of (map level_of bs);
  low = halves (map low_half bs);
  high = halves (map high_half bs);
  last_pull = last_pull;
}

-- the acknowledgement: after the last pull of CLOCK, DATA is released and then pulled
abbrev pub acknowledgement : List Edge → Option ℕ
acknowledgement (r ∷ a ∷ es) = Some a.time
acknowledgement es = None

-- what ends the wait for it: the next stretch, if there is one
abbrev pub waiting_end : List ClockPhase → FrameEnd
waiting_end [] = frame.Cut
waiting_end (s ∷ ss) = frame.Unacknowledged s.first.time

abbrev pub frame_end : Option ℕ → List ClockPhase → FrameEnd
frame_end (Some t) behind = frame.Acknowledged t
frame_end None behind = waiting_end behind

-- what ends a byte too soon: CLOCK stays released, or ATN is pulled, or the recording ends
abbrev pub silence_or : Option ℕ → IncompleteEnd → IncompleteEnd
silence_or (Some t) otherwise = glitch.ClockTimeout t
silence_or None otherwise = otherwise

abbrev pub high_end : ClockPhase → List ClockPhase → IncompleteEnd
high_end s [] = silence_or (first_late s.first.time s.rest) glitch.Cut
high_end s (n ∷ ss) = silence_or (first_late s.first.time (s.rest ++ n.first ∷ [])) (glitch.Attention n.first.time)

abbrev pub glitch_end : List ClockPhase → IncompleteEnd
glitch_end [] = glitch.Cut
glitch_end (s ∷ ss) = if s.attention then glitch.Attention s.first.time else high_end s ss

-- the reading of a byte: a frame with eight bits, else an incomplete byte
abbrev pub reading : Opening → (pull : ℕ) → Bits → Reading
reading o pull b =
    if length b.bits == 8
    then Frame (transfer o pull b.bits b.last.first.time) (frame_end (acknowledgement (turns_of b.last)) b.behind)
    else IncompleteByte (transfer o pull b.bits b.last.first.time) (glitch_end b.behind)

-- the number of stretches of bits
abbrev pub number_of : List Bit → ℕ
number_of [] = 0
number_of (b ∷ bs) = suc (suc (number_of bs))

-- a pull of ATN begins the first of some stretches
abbrev pub is_called : List ClockPhase → Bool
is_called [] = false
is_called (s ∷ ss) = s.attention

-- the byte that an opening and the stretch after it begin, and the number of stretches of its bits.
-- There is none where ATN is pulled with CLOCK's first pull, or before CLOCK is released for a
-- first bit: then no bit has come, and the computer pulled CLOCK to call. (After a talker's last
-- byte CLOCK is released, and then DATA, as if one more byte were to come.)
abbrev pub begun_by : Option Opening → ClockPhase → List ClockPhase → Option (Reading × ℕ)
begun_by None low ss = None
begun_by (Some o) low ss =
    if low.attention || is_called ss then None
    else (let b = bits_from 8 low ss in Some (reading o low.first.time b, number_of b.bits))

abbrev pub begins : ClockPhase → List ClockPhase → Option (Reading × ℕ)
begins s [] = None
begins s (low ∷ ss) = begun_by (opening_of s) low ss

-- a reading, if there is one, and then what comes after its stretches
abbrev pub said : Option (Reading × ℕ) → (ℕ → List Reading) → List Reading
said None behind = behind 0
said (Some r) behind = r.0 ∷ behind r.1

-- what stretches say, after this number of stretches that belong to a byte
abbrev pub readings : (taken : ℕ) → List ClockPhase → List Reading
readings n [] = []
readings (suc n) (s ∷ ss) = readings n ss
readings zero (s ∷ ss) = said (begins s ss) (λ n. readings n ss)

-- what a whole recording says
abbrev pub readings_of : List Edge → List Reading
readings_of edges = readings 0 (stretches edges)

-- a reading that the end of the recording does not cut
abbrev pub is_settled : Reading → Bool
is_settled (Frame t frame.Cut) = false
is_settled (IncompleteByte t glitch.Cut) = false
is_settled r = true

-- what edges say, whatever edges follow
abbrev pub settled_of : List Edge → List Reading
settled_of edges = filter is_settled (readings_of edges)
