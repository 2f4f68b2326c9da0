-- Linking words: how a decoder is held in numbers, and which edges it has taken. No reader needs to believe them; that a decoder comes back
-- from its numbers is proved (`DecodersComeBack`). All numbers are those of some decoder: more turns than four are four, a level or a flag
-- that is not its one number is the other.
use Rattle.std.specs.Prelude.{◌≡◌, ℕ, Bool, ◌==◌, if◌then◌else◌, List, map, Option, Some, None}
use Rattle.pr_wire.specs.declared.Edge.{Edge}
use Rattle.pr_decode.specs.declared.decoder.Decoder.{Decoder}
use Rattle.pr_decode.specs.declared.reading.Pulse.{Pulse}
use Rattle.pr_decode.specs.declared.reading.Reading.{Reading}
use Rattle.pr_decode.specs.declared.reading.Transfer.{Transfer}
use Rattle.pr_decode.specs.declared.clock_phase.ClockPhase.{ClockPhase}
use Rattle.pr_decode.specs.declared.clock_phase.DataTransitions.{DataTransitions}
use Rattle.pr_decode.specs.declared.clock_phase.DataTransitions.TheVariants.{Still, Once, Twice, Thrice, Often}
use Rattle.pr_decode.specs.Taking.{HasReadings, last_time}
use Rattle.pr_ear.specs.declared.WireEdge.{WireEdge}
use Rattle.pr_ear.specs.declared.decoder_numbers.WireByte.{WireByte}
use Rattle.pr_ear.specs.declared.decoder_numbers.WireDecoder.{WireDecoder}
use Rattle.pr_ear.specs.Decoding.{byte_numbers, last_moment, no_byte}
use Rattle.pr_ear.specs.Hearing.{bit_of, edge_of}
use Rattle.pr_ear.specs.Numbers.{wire_of}

-- the numbers of no edge
abbrev pub no_edge : WireEdge
no_edge = record { time = 0; atn = 0; clock = 0; «data» = 0 }

-- how many edges at which DATA has turned are kept, and each of them
abbrev pub turns_number : DataTransitions → ℕ
turns_number Still = 0
turns_number (Once a) = 1
turns_number (Twice a b) = 2
turns_number (Thrice a b c) = 3
turns_number (Often a b c d) = 4

abbrev pub turn1 : DataTransitions → WireEdge
turn1 Still = no_edge
turn1 (Once a) = wire_of a
turn1 (Twice a b) = wire_of a
turn1 (Thrice a b c) = wire_of a
turn1 (Often a b c d) = wire_of a

abbrev pub turn2 : DataTransitions → WireEdge
turn2 Still = no_edge
turn2 (Once a) = no_edge
turn2 (Twice a b) = wire_of b
turn2 (Thrice a b c) = wire_of b
turn2 (Often a b c d) = wire_of b

abbrev pub turn3 : DataTransitions → WireEdge
turn3 Still = no_edge
turn3 (Once a) = no_edge
turn3 (Twice a b) = no_edge
turn3 (Thrice a b c) = wire_of c
turn3 (Often a b c d) = wire_of c

abbrev pub turn4 : DataTransitions → WireEdge
turn4 Still = no_edge
turn4 (Once a) = no_edge
turn4 (Twice a b) = no_edge
turn4 (Thrice a b c) = no_edge
turn4 (Often a b c d) = wire_of d

-- the turns by their numbers
abbrev pub turns_from : ℕ → (a b c d : Edge) → DataTransitions
turns_from n a b c d =
    if n == 0 then Still
    else (if n == 1 then Once a
    else (if n == 2 then Twice a b
    else (if n == 3 then Thrice a b c else Often a b c d)))

abbrev pub turns_by : WireDecoder → DataTransitions
turns_by w = turns_from w.turns (edge_of w.turn1) (edge_of w.turn2) (edge_of w.turn3) (edge_of w.turn4)

-- the numbers of a stretch, if there is one
abbrev pub begun_in : Option ClockPhase → ℕ
begun_in None = 0
begun_in (Some s) = 1

abbrev pub called_in : Option ClockPhase → ℕ
called_in None = 0
called_in (Some s) = bit_of s.attention

abbrev pub first_in : Option ClockPhase → WireEdge
first_in None = no_edge
first_in (Some s) = wire_of s.first

abbrev pub last_in : Option ClockPhase → WireEdge
last_in None = no_edge
last_in (Some s) = wire_of s.last

abbrev pub turns_in : Option ClockPhase → DataTransitions
turns_in None = Still
turns_in (Some s) = s.turns

-- a stretch by its numbers
abbrev pub stretch_from : (begun : ℕ) → (called : Bool) → (first last : Edge) → DataTransitions → Option ClockPhase
stretch_from begun called first last turns =
    if begun == 1 then Some (record { attention = called; first = first; last = last; turns = turns }) else None

abbrev pub stretch_by : WireDecoder → Option ClockPhase
stretch_by w = stretch_from w.begun (w.called == 1) (edge_of w.first) (edge_of w.last) (turns_by w)

-- the numbers of a byte, if one has begun
abbrev pub sent_in : Option Transfer → ℕ
sent_in None = 0
sent_in (Some t) = 1

abbrev pub byte_in : Option Transfer → WireByte
byte_in None = no_byte
byte_in (Some t) = byte_numbers t

-- a byte by its numbers
abbrev pub pulse_from : (eoi pulled released : ℕ) → Option Pulse
pulse_from eoi pulled released = if eoi == 1 then Some (record { pulled = pulled; released = released }) else None

abbrev pub byte_from : WireByte → Transfer
byte_from b = record {
  opening = record {
    command = b.command == 1;
    ready_to_send = b.look;
    ready_for_data = b.ready;
    pulse = pulse_from b.eoi b.answered b.answer_ended;
  };
  pull = b.pull;
  bits = b.bits;
  byte = b.byte;
  low = record { shortest = b.shortest_low; longest = b.longest_low };
  high = record { shortest = b.shortest_high; longest = b.longest_high };
  last_pull = b.last_pull;
}

abbrev pub transfer_from : (sent : ℕ) → Transfer → Option Transfer
transfer_from sent t = if sent == 1 then Some t else None

abbrev pub transfer_by : WireDecoder → Option Transfer
transfer_by w = transfer_from w.sent (byte_from w.byte)

-- the numbers of a decoder
abbrev pub stored : Decoder → WireDecoder
stored d = record {
  first = first_in d.stretch;
  last = last_in d.stretch;
  turn1 = turn1 (turns_in d.stretch);
  turn2 = turn2 (turns_in d.stretch);
  turn3 = turn3 (turns_in d.stretch);
  turn4 = turn4 (turns_in d.stretch);
  byte = byte_in d.transfer;
  begun = begun_in d.stretch;
  called = called_in d.stretch;
  turns = turns_number (turns_in d.stretch);
  sent = sent_in d.transfer;
}

-- a decoder by its numbers
abbrev pub decoder_by : WireDecoder → Decoder
decoder_by w = record { stretch = stretch_by w; transfer = transfer_by w }

-- what is stored is what is restored
abbrev pub DecodersComeBack : Type 0
DecodersComeBack = (decoder : Decoder) → decoder_by (stored decoder) ≡ decoder

-- these edges were taken and these readings given, and the numbers hold the decoder that they have left
pub record HasDecoded (edges : List WireEdge) (given : List Reading) (w : WireDecoder) : Type 0 where
  pub decoder : Decoder
  pub read : HasReadings (map edge_of edges) given decoder
  pub last : last_time decoder ≡ last_moment edges
  pub numbers : w ≡ stored decoder
