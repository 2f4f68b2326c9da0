-- Trusted: a talker and devices on one line. The edges before a moment say what each device does then: `WakesSuffice`
-- says that this is what a device does that `Device::step` shows each edge, and that is called at its wakes.
use Rattle.std.specs.Prelude.{◌≡◌, ℕ, ◌+◌, ◌<◌, ◌≤◌, nat_lt, Bool, true, false, not, ◌&&◌, ◌||◌, ◌==◌, if◌then◌else◌}
use Rattle.std.specs.Prelude.{cond, List, [], ◌∷◌, ◌++◌, map, drop, Option, Some, None}
use Rattle.pr_wire.specs.declared.Edge.{Edge}
use Rattle.pr_wire.specs.Levels.{edge_at}
use Rattle.pr_wire.specs.Pieces.{FrameTimes, SecondFrame, Ending, pulse_edges, bit_edges, ending_edges}
use Rattle.pr_wire.specs.declared.delay.Kind.TheVariants.{Aw}
use Rattle.pr_wire.specs.Delays.{delay_at}
use Rattle.pr_bus.specs.Timed.{ListenerTiming, frame_times}
use Rattle.pr_device.specs.declared.place.Place.{Place}
use Rattle.pr_device.specs.declared.place.Place.TheVariants.{Between, Sent}
use Rattle.pr_device.specs.declared.timing.Timing.{Timing}
use Rattle.pr_device.specs.Data.{pulls, standing, is_away}
use Rattle.pr_device.specs.Following.{atn_of, clock_of, place_after}

-- a device on the line: its number and its delays
pub record Party : Type 0 where
  pub device : ℕ
  pub timing : Timing

-- each of some devices keeps a condition
abbrev pub Each : (Party → Type 0) → List Party → Type 0
Each P [] = Unit {0}
Each P (p ∷ ps) = P p × Each P ps

-- whether a device pulls DATA at a moment, after these edges, the latest first: it acts at the last edge, by what it
-- did until then, and at the moment, by what it did from the edge on
abbrev pub pulling : Party → List Edge → ℕ → Bool
pulling p [] now = false
pulling p (e ∷ history) now =
    let s = standing p.timing.wait p.device (e ∷ history) in
    pulls p.timing 0 (pulls p.timing 0 (pulling p history e.time) s e.time) s now

-- whether one of some devices does
abbrev pub one_pulls : List Party → List Edge → ℕ → Bool
one_pulls [] history now = false
one_pulls (p ∷ ps) history now = pulling p history now || one_pulls ps history now

-- DATA's level, where the talker has it at a level of its own: released where nobody pulls it
abbrev pub shared : Bool → List Party → List Edge → ℕ → Bool
shared level parties history now = level && not (one_pulls parties history now)

-- an edge of the lines, and the level that the talker gives DATA from then on
pub record Move : Type 0 where
  pub edge : Edge
  pub level : Bool

-- an edge of a line that is shared: with it DATA comes to the level that talker and devices give it, by what they have
-- seen before; and it stays so until the next edge
pub record IsMade (parties : List Party) (history : List Edge) (m : Move) (next : ℕ) : Type 0 where
  pub comes : m.edge.levels.line ≡ shared m.level parties history m.edge.time
  pub stays : (now : ℕ) → m.edge.time ≤ now → now < next
      → m.edge.levels.line ≡ shared m.level parties (m.edge ∷ history) now

-- the moment of the first of some moves; an end, if there is none
abbrev pub next_moment : List Move → ℕ → ℕ
next_moment [] end = end
next_moment (m ∷ ms) end = m.edge.time

-- so are all edges of some moves, up to an end
abbrev pub AreMade : List Party → List Edge → List Move → ℕ → Type 0
AreMade parties history [] end = Unit {0}
AreMade parties history (m ∷ ms) end =
    IsMade parties history m (next_moment ms end) × AreMade parties (m.edge ∷ history) ms end

-- the edges after some moves
abbrev pub after_moves : List Edge → List Move → List Edge
after_moves history [] = history
after_moves history (m ∷ ms) = after_moves (m.edge ∷ history) ms

-- the talker has released DATA, and leaves it to the devices; or it sets DATA itself
abbrev pub released : Edge → Move
released e = record { edge = e; level = true }

abbrev pub set : Edge → Move
set e = record { edge = e; level = e.levels.line }

-- the moves of a frame after CLOCK's release: the talker sets DATA for the bits alone
abbrev pub frame_moves : Bool → FrameTimes → List Move
frame_moves x f =
    released (edge_at f.free x true true)
    ∷ map released (pulse_edges f.pulse) ++ map set (bit_edges x f.pull f.bits)
    ++ released (edge_at f.ack x false false) ∷ []

-- the devices to which somebody speaks, after a history
abbrev pub heeding : List Edge → List Party → List Party
heeding history [] = []
heeding history (p ∷ ps) =
    if is_away (standing p.timing.wait p.device history) then heeding history ps else p ∷ heeding history ps

-- what such a device waits in a frame
abbrev pub hearer : Bool → Party → ListenerTiming
hearer eoi p = record {
  hold = p.timing.hold;
  wait = p.timing.wait;
  answer = cond eoi p.timing.answer 0;
  accept = p.timing.accept;
}

-- no byte has begun
abbrev pub IsBetweenBytes : Place → Type 0
IsBetweenBytes Between = Unit {0}
IsBetweenBytes (Sent pull) = Unit {0}
IsBetweenBytes _ = ⊥

-- a device expects a byte at a moment: CLOCK is pulled between two bytes, and the device pulls DATA if somebody speaks
-- to it
pub record ExpectsByte (atn : Bool) (history : List Edge) (now : ℕ) (p : Party) : Type 0 where
  pub atn_is : atn_of history ≡ atn
  pub clock_is : clock_of history ≡ false
  pub between : IsBetweenBytes (place_after p.timing.wait history)
  pub pulls_is : pulling p history now ≡ not (is_away (standing p.timing.wait p.device history))

-- a whole frame, from CLOCK's release on
abbrev pub sent_moves : Bool → ℕ → FrameTimes → List Move
sent_moves x look f = released (edge_at look x true false) ∷ frame_moves x f

-- DATA's pull in answer to ATN, unless it comes with CLOCK's release or DATA is pulled already
abbrev pub answer_moves : Option ℕ → ℕ → List Move
answer_moves None look = []
answer_moves (Some d) look = if d == look then [] else released (edge_at d false false false) ∷ []

-- a second command
abbrev pub second_moves : Option SecondFrame → List Move
second_moves None = []
second_moves (Some m) = sent_moves false m.look m.sent

-- a second command, after an acknowledgement, with the talker's numbers, to devices that hear it
abbrev pub second_for : ℕ → Option ℕ → List ℕ → List Party → Option SecondFrame
second_for ack None numbers parties = None
second_for ack (Some byte) numbers parties =
    let look = ack + delay_at Aw numbers 0 in
    Some (record { look = look; sent = frame_times look false byte (drop 1 numbers) (map (hearer false) parties) })

-- an attention: ATN's pull, where DATA has this level, the commands, and the end
abbrev pub attention_moves : Bool → ℕ → Option ℕ → ℕ → FrameTimes → Option SecondFrame → Ending → List Move
attention_moves line a answer look first second end =
    released (edge_at a false false line)
    ∷ (answer_moves answer look
    ++ (sent_moves false look first ++ (second_moves second ++ map released (ending_edges end))))

-- after ATN's release a device that is spoken to holds DATA, and another one leaves it
pub record HasLeft (history : List Edge) (since : ℕ) (p : Party) : Type 0 where
  pub atn_is : atn_of history ≡ true
  pub clock_is : clock_of history ≡ false
  pub place_is : place_after p.timing.wait history ≡ Between
  pub does : (now : ℕ) → pulling p history now
      ≡ (not (is_away (standing p.timing.wait p.device history)) || nat_lt now (since + p.timing.leave))
