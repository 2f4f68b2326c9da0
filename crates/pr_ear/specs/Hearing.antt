-- Trusted: what a caller's edges mean, and what a device hears of them.
use Rattle.std.specs.Prelude.{◌≡◌, ℕ, ◌≤◌, Bool, true, false, not, ◌==◌, List, map}
use Rattle.pr_page.specs.declared.input.Input.{Input}
use Rattle.pr_page.specs.declared.input.Input.TheVariants.{Select, Byte}
use Rattle.pr_wire.specs.declared.Edge.{Edge}
use Rattle.pr_wire.specs.declared.Frame.{Frame}
use Rattle.pr_wire.specs.Pieces.{Spells}
use Rattle.pr_receiver.specs.Heard.{heard_of}
use Rattle.pr_ear.specs.declared.WireEdge.{WireEdge}
use Rattle.pr_ear.specs.declared.Answer.{Answer}

-- a line is released unless its number is 0
abbrev pub is_released : ℕ → Bool
is_released level = not (level == 0)

-- an edge that the caller passes
abbrev pub edge_of : WireEdge → Edge
edge_of e = record {
  time = e.time;
  levels = record { atn = is_released e.atn; clock = is_released e.clock; line = is_released e.data };
}

-- a truth value, as a number
abbrev pub bit_of : Bool → ℕ
bit_of true = 1
bit_of false = 0

-- an input as a number: a byte, 256 the graphic/upper case set, 257 the lower/upper case set
abbrev pub number_of : Input → ℕ
number_of (Select false) = 256
number_of (Select true) = 257
number_of (Byte byte) = byte

-- the devices of the bus that a printer can be
pub record IsDevice (device : ℕ) : Type 0 where
  pub least : 4 ≤ device
  pub greatest : device ≤ 30

-- the edges are a lawful trace, and these numbers are what a device hears of the frames that it spells
abbrev pub AreHeard : ℕ → List WireEdge → List ℕ → Type 0
AreHeard device edges numbers =
    (frames : List Frame) × IsDevice device × Spells (map edge_of edges) frames
    × (numbers ≡ map number_of (heard_of device frames))

-- the answer of a beginning: whether there is such a device
abbrev pub begin_answer_of : Bool → Answer
begin_answer_of true = record { code = 0; fault = 0; place = 0; length = 0 }
begin_answer_of false = record { code = 2; fault = 21; place = 0; length = 0 }
