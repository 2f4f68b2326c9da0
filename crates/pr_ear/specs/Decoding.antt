-- Trusted: what a decoder answers for the edges of a recording, one by one, and the numbers of its answers.
use Rattle.std.specs.Prelude.{◌≡◌, ℕ, ◌<◌, List, [], ◌∷◌, ◌++◌, map, Option, Some, None, Result, Ok, Err}
use Rattle.std.specs.Option.{option_to_list}
use Rattle.pr_decode.specs.declared.decoder.GoesBack.{GoesBack}
use Rattle.pr_decode.specs.declared.reading.FrameEnd.TheVariants as frame
use Rattle.pr_decode.specs.declared.reading.IncompleteEnd.TheVariants as glitch
use Rattle.pr_decode.specs.declared.reading.Pulse.{Pulse}
use Rattle.pr_decode.specs.declared.reading.Reading.{Reading}
use Rattle.pr_decode.specs.declared.reading.Reading.TheVariants.{Frame, IncompleteByte}
use Rattle.pr_decode.specs.declared.reading.Transfer.{Transfer}
use Rattle.pr_decode.specs.Readings.{readings_of, settled_of}
use Rattle.pr_ear.specs.declared.Answer.{Answer}
use Rattle.pr_ear.specs.declared.WireEdge.{WireEdge}
use Rattle.pr_ear.specs.declared.decoder_numbers.WireByte.{WireByte}
use Rattle.pr_ear.specs.declared.decoder_numbers.WireReading.{WireReading}
use Rattle.pr_ear.specs.Hearing.{bit_of, edge_of}

-- the moment of the last of some edges
abbrev pub last_moment : List WireEdge → Option ℕ
last_moment [] = None
last_moment (e ∷ []) = Some e.time
last_moment (e ∷ f ∷ es) = last_moment (f ∷ es)

-- a moment is before the last one, if there is a last one
abbrev pub StandsBefore : ℕ → Option ℕ → Type 0
StandsBefore time None = ⊥
StandsBefore time (Some last) = time < last

-- what all edges say, and what they say whatever edges follow
abbrev pub said_by : List WireEdge → List Reading
said_by edges = readings_of (map edge_of edges)

abbrev pub settled_by : List WireEdge → List Reading
settled_by edges = settled_of (map edge_of edges)

-- the answer to one more edge: the reading that it settles, if any; or that time goes back
abbrev pub TellsNext : List WireEdge → WireEdge → Result (Option Reading) GoesBack → Type 0
TellsNext edges edge (Ok reading) =
    (settled_by (edges ++ edge ∷ []) ≡ settled_by edges ++ option_to_list reading)
    × (StandsBefore edge.time (last_moment edges) → ⊥)
TellsNext edges edge (Err back) = StandsBefore edge.time (last_moment edges)

-- the answer at the end of these edges, after these readings: they are all that is settled, and the
-- end cuts one more byte, or none
abbrev pub TellsCut : List WireEdge → (given : List Reading) → Option Reading → Type 0
TellsCut edges given cut = (settled_by edges ≡ given) × (said_by edges ≡ given ++ option_to_list cut)

-- the pulse of end-or-identify, as numbers
abbrev pub eoi_number : Option Pulse → ℕ
eoi_number None = 0
eoi_number (Some p) = 1

abbrev pub answered : Option Pulse → ℕ
answered None = 0
answered (Some p) = p.pulled

abbrev pub answer_ended : Option Pulse → ℕ
answer_ended None = 0
answer_ended (Some p) = p.released

-- a byte as far as it came, as numbers
abbrev pub byte_numbers : Transfer → WireByte
byte_numbers t = record {
  look = t.opening.ready_to_send;
  ready = t.opening.ready_for_data;
  answered = answered t.opening.pulse;
  answer_ended = answer_ended t.opening.pulse;
  pull = t.pull;
  shortest_low = t.low.shortest;
  longest_low = t.low.longest;
  shortest_high = t.high.shortest;
  longest_high = t.high.longest;
  last_pull = t.last_pull;
  command = bit_of t.opening.command;
  eoi = eoi_number t.opening.pulse;
  bits = t.bits;
  byte = t.byte;
}

-- the numbers of no byte
abbrev pub no_byte : WireByte
no_byte = record {
  look = 0;
  ready = 0;
  answered = 0;
  answer_ended = 0;
  pull = 0;
  shortest_low = 0;
  longest_low = 0;
  shortest_high = 0;
  longest_high = 0;
  last_pull = 0;
  command = 0;
  eoi = 0;
  bits = 0;
  byte = 0;
}

-- a reading, if there is one, as numbers
abbrev pub reading_numbers : Option Reading → WireReading
reading_numbers None = record { byte = no_byte; end = 0; kind = 0 }
reading_numbers (Some (Frame t (frame.Acknowledged time))) = record { byte = byte_numbers t; end = time; kind = 1 }
reading_numbers (Some (Frame t (frame.Unacknowledged time))) = record { byte = byte_numbers t; end = time; kind = 2 }
reading_numbers (Some (Frame t frame.Cut)) = record { byte = byte_numbers t; end = 0; kind = 3 }
reading_numbers (Some (IncompleteByte t (glitch.Attention time))) =
    record { byte = byte_numbers t; end = time; kind = 4 }
reading_numbers (Some (IncompleteByte t (glitch.ClockTimeout time))) =
    record { byte = byte_numbers t; end = time; kind = 5 }
reading_numbers (Some (IncompleteByte t glitch.Cut)) = record { byte = byte_numbers t; end = 0; kind = 6 }

-- how many there are, and the codes
abbrev pub settled_answer : Option Reading → Answer
settled_answer None = record { code = 0; fault = 0; place = 0; length = 0 }
settled_answer (Some reading) = record { code = 0; fault = 0; place = 0; length = 1 }

-- an answer to an edge as numbers: the reading, and the codes
abbrev pub reading_of : Result (Option Reading) GoesBack → WireReading
reading_of (Ok reading) = reading_numbers reading
reading_of (Err back) = reading_numbers None

abbrev pub decoder_answer_of : Result (Option Reading) GoesBack → Answer
decoder_answer_of (Ok reading) = settled_answer reading
decoder_answer_of (Err back) = record { code = 2; fault = 12; place = 0; length = 0 }
