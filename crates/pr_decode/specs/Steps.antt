-- Machine steps: what a decoder keeps of edges, and what one edge more comes to. No reader needs to believe them.
use Rattle.std.specs.Prelude.{ℕ, ◌+◌, ◌-◌, ◌==◌, nat_lt, min, max, Bool, false, not, ◌&&◌, Option, Some, None, if◌then◌else◌}
use Rattle.pr_wire.specs.declared.Edge.{Edge}
use Rattle.pr_wire.specs.Table.{same}
use Rattle.pr_decode.specs.declared.decoder.Decoder.{Decoder}
use Rattle.pr_decode.specs.declared.decoder.Ending.{Ending}
use Rattle.pr_decode.specs.declared.decoder.Ending.TheVariants.{Whole, Broken}
use Rattle.pr_decode.specs.declared.reading.Opening.{Opening}
use Rattle.pr_decode.specs.declared.reading.Halves.{Halves}
use Rattle.pr_decode.specs.declared.reading.Transfer.{Transfer}
use Rattle.pr_decode.specs.declared.reading.FrameEnd.TheVariants as frame
use Rattle.pr_decode.specs.declared.reading.IncompleteEnd.TheVariants as glitch
use Rattle.pr_decode.specs.declared.reading.Reading.{Reading}
use Rattle.pr_decode.specs.declared.reading.Reading.TheVariants.{Frame, IncompleteByte}
use Rattle.pr_decode.specs.declared.clock_phase.ClockPhase.{ClockPhase}
use Rattle.pr_decode.specs.declared.clock_phase.DataTransitions.{DataTransitions}
use Rattle.pr_decode.specs.declared.clock_phase.DataTransitions.TheVariants.{Still, Once, Twice, Thrice, Often}
use Rattle.pr_decode.specs.Readings.{is_late}
use Rattle.pr_decode.specs.ClockPhases.{calls, goes_on}

-- what the number of the next bit counts for, after this many bits
abbrev pub weight : ℕ → ℕ
weight n =
    if n == 0 then 1
    else (if n == 1 then 2
    else (if n == 2 then 4
    else (if n == 3 then 8
    else (if n == 4 then 16
    else (if n == 5 then 32
    else (if n == 6 then 64
    else 128))))))

-- one half more, after those of this many bits
abbrev pub widened : (bits : ℕ) → Halves → ℕ → Halves
widened bits h n =
    if bits == 0 then record { shortest = n; longest = n }
    else record { shortest = min h.shortest n; longest = max h.longest n }

-- a byte whose bits begin with an edge
abbrev pub begun_transfer : Opening → Edge → Transfer
begun_transfer o e = record {
  opening = o;
  pull = e.time;
  bits = 0;
  byte = 0;
  low = record { shortest = 0; longest = 0 };
  high = record { shortest = 0; longest = 0 };
  last_pull = e.time;
}

-- one bit more, by the edges that release CLOCK and pull it again
abbrev pub with_bit : Transfer → (up down : Edge) → Transfer
with_bit t up down = record {
  opening = t.opening;
  pull = t.pull;
  bits = min (t.bits + 1) 255;
  byte = min (t.byte + (if up.levels.line then weight t.bits else 0)) 255;
  low = widened t.bits t.low (up.time - t.last_pull);
  high = widened t.bits t.high (down.time - up.time);
  last_pull = down.time;
}

-- the turns with the next edge
abbrev pub turned : Bool → DataTransitions → Edge → DataTransitions
turned level Still e = if same e.levels.line level then Once e else Still
turned level (Once a) e = if same e.levels.line level then Once a else Twice a e
turned level (Twice a b) e = if same e.levels.line level then Thrice a b e else Twice a b
turned level (Thrice a b c) e = if same e.levels.line level then Thrice a b c else Often a b c e
turned level (Often a b c d) e = Often a b c d

-- a stretch that begins, and one with an edge more
abbrev pub began : (attention : Bool) → Edge → ClockPhase
began attention e = record { attention = attention; first = e; last = e; turns = turned (not e.levels.clock) Still e }

abbrev pub with_edge : ClockPhase → Edge → ClockPhase
with_edge s e =
    record { attention = s.attention; first = s.first; last = e; turns = turned (not s.first.levels.clock) s.turns e }

-- the opening that turns are
abbrev pub opened : DataTransitions → Option Opening
opened Still = None
opened (Once a) = None
opened (Twice a b) =
    Some (record { command = not b.levels.atn; ready_to_send = a.time; ready_for_data = b.time; pulse = None })
opened (Thrice a b c) =
    Some (record { command = not b.levels.atn; ready_to_send = a.time; ready_for_data = b.time; pulse = None })
opened (Often a b c d) = Some (record {
  command = not b.levels.atn;
  ready_to_send = a.time;
  ready_for_data = b.time;
  pulse = Some (record { pulled = c.time; released = d.time });
})

abbrev pub opening_in : ClockPhase → Option Opening
opening_in s = if s.attention then None else (if s.first.levels.clock then opened s.turns else None)

-- the acknowledgement among turns
abbrev pub acknowledged_in : DataTransitions → Option ℕ
acknowledged_in Still = None
acknowledged_in (Once a) = None
acknowledged_in (Twice a b) = Some b.time
acknowledged_in (Thrice a b c) = Some b.time
acknowledged_in (Often a b c d) = Some b.time

-- what an edge ends of a byte
abbrev pub acknowledged_at : Transfer → Option ℕ → Option Reading
acknowledged_at t (Some time) = Some (Frame t (frame.Acknowledged time))
acknowledged_at t None = None

abbrev pub frame_ended : Transfer → ClockPhase → Edge → Option Reading
frame_ended t s e =
    if goes_on s.first s.last e then acknowledged_at t (acknowledged_in (turned (not s.first.levels.clock) s.turns e))
    else Some (Frame t (frame.Unacknowledged e.time))

abbrev pub called_at : Transfer → ClockPhase → Edge → Option Reading
called_at t s e = if calls s.last e then Some (IncompleteByte t (glitch.Attention e.time)) else None

abbrev pub bits_ended : Transfer → ClockPhase → Edge → Option Reading
bits_ended t s e = if t.bits == 0 then None else called_at t s e

abbrev pub low_ended : Transfer → ClockPhase → Edge → Option Reading
low_ended t s e = if t.bits == 8 then frame_ended t s e else bits_ended t s e

abbrev pub high_ended : Transfer → ClockPhase → Edge → Option Reading
high_ended t s e =
    if is_late s.first.time e then Some (IncompleteByte t (glitch.ClockTimeout e.time)) else called_at t s e

abbrev pub ended_by : Option Transfer → ClockPhase → Edge → Option Reading
ended_by None s e = None
ended_by (Some t) s e = if s.first.levels.clock then high_ended t s e else low_ended t s e

-- the reading of a byte that has begun, by how it ends, if it does
abbrev pub ended_as : Option Transfer → Option Ending → Option Reading
ended_as t None = None
ended_as None (Some e) = None
ended_as (Some t) (Some (Whole end)) = Some (Frame t end)
ended_as (Some t) (Some (Broken end)) = Some (IncompleteByte t end)

-- the byte begun, once an edge has ended a stretch
abbrev pub begun_behind : Option Opening → Edge → Option Transfer
begun_behind None e = None
begun_behind (Some o) e = Some (begun_transfer o e)

abbrev pub advanced : Option Transfer → ClockPhase → Edge → Option Transfer
advanced None s e = begun_behind (opening_in s) e
advanced (Some t) s e = Some (if s.first.levels.clock then with_bit t s.first e else t)

abbrev pub moved : Option Transfer → ClockPhase → Edge → Option Transfer
moved t s e = if calls s.last e then None else advanced t s e

-- a decoder after an edge that goes on with a stretch, or ends it
abbrev pub after : Option Transfer → ClockPhase → Edge → Decoder
after t s e =
    if goes_on s.first s.last e then record { stretch = Some (with_edge s e); transfer = t }
    else record { stretch = Some (began (calls s.last e) e); transfer = moved t s e }

-- the byte that stays, by what the edge ends
abbrev pub kept_of : Option Reading → Option Transfer → Option Transfer
kept_of None t = t
kept_of (Some r) t = None

abbrev pub after_edge : Option Transfer → ClockPhase → Edge → Decoder
after_edge t s e = after (kept_of (ended_by t s e) t) s e

-- two edges are a whole bit of a byte that has begun, after an edge with CLOCK pulled
abbrev pub is_bit : (last up down : Edge) → Bool
is_bit last up down =
    up.levels.clock && not down.levels.clock && not (calls last up) && not (calls up down)
    && not (nat_lt up.time last.time) && not (nat_lt down.time up.time) && not (is_late up.time down)

-- a decoder in which a byte has begun
abbrev pub sends : ClockPhase → Transfer → Decoder
sends s t = record { stretch = Some s; transfer = Some t }

-- the stretch after this many edges of whole bits, by the last of them
abbrev pub stretch_after : ℕ → ClockPhase → (last : Edge) → ClockPhase
stretch_after n s last = if n == 0 then s else began false last

-- what the recording's end cuts
abbrev pub cut_in : Option Transfer → Option Reading
cut_in None = None
cut_in (Some t) = Some (if t.bits == 8 then Frame t frame.Cut else IncompleteByte t glitch.Cut)
