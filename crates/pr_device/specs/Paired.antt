-- Trusted: the timed trace of pr_bus as moves of its talker, and the printers' numbers that make the delays of devices.
use Rattle.std.specs.Prelude.{◌≡◌, ℕ, ◌≤◌, Bool, true, false, cond, List, [], ◌∷◌, ◌++◌, map, Option, Some, None}
use Rattle.pr_serial.specs.declared.Item.{Item}
use Rattle.pr_serial.specs.declared.Item.TheVariants as item
use Rattle.pr_serial.specs.Answers.{is_listener}
use Rattle.pr_wire.specs.declared.delay.Kind.TheVariants.{At, H, Ye, Ei, F, Dr}
use Rattle.pr_wire.specs.Levels.{edge_at}
use Rattle.pr_wire.specs.Delays.{delay_at}
use Rattle.pr_wire.specs.Pieces.{Piece, call_edge, ending_edges}
use Rattle.pr_wire.specs.Pieces.Piece.{Unanswered, Attention, DataByte, Dropped}
use Rattle.pr_bus.specs.Timed.{Lines, Free, Pulled, Due, TimedPrinter, TimedBus, done, due_edges, between}
use Rattle.pr_bus.specs.Timed.{printer_takes}
use Rattle.pr_device.specs.Course.{Party, Move, released, sent_moves, answer_moves, second_moves}

-- a condition of each device and its printer in the timed trace
abbrev pub Both : (Party → TimedPrinter → Type 0) → List Party → List TimedPrinter → Type 0
Both P [] [] = Unit {0}
Both P (p ∷ ps) (q ∷ qs) = P p q × Both P ps qs
Both P _ _ = ⊥

-- the numbers that a printer takes for a second command make the device's delays
abbrev pub MakeSecond : Option ℕ → Party → List ℕ → Type 0
MakeSecond None p numbers = Unit {0}
MakeSecond (Some byte) p numbers = (delay_at H numbers 3 ≡ p.timing.hold) × (delay_at F numbers 4 ≡ p.timing.accept)

-- so do those that it takes for an attention, after which it listens or leaves
pub record MakeCall (second : Option ℕ) (listens : Bool) (p : Party) (numbers : List ℕ) : Type 0 where
  pub attention : delay_at At numbers 0 ≡ p.timing.attention
  pub hold : delay_at H numbers 1 ≡ p.timing.hold
  pub accept : delay_at F numbers 2 ≡ p.timing.accept
  pub second_is : MakeSecond second p numbers
  pub leave : listens ≡ false → delay_at Dr numbers (printer_takes second) ≡ p.timing.leave

-- and for a data byte
pub record MakeByte (eoi : Bool) (p : Party) (numbers : List ℕ) : Type 0 where
  pub hold : delay_at H numbers 0 ≡ p.timing.hold
  pub wait : delay_at Ye numbers 1 ≡ p.timing.wait
  pub answer : eoi ≡ true → delay_at Ei numbers 2 ≡ p.timing.answer
  pub accept : delay_at F numbers (cond eoi 3 2) ≡ p.timing.accept

-- for an item, after the items before it
abbrev pub MakeItem : List Item → Item → Party → List ℕ → Type 0
MakeItem before (item.Attention byte second) p numbers =
    MakeCall second (is_listener p.device (before ++ item.Attention byte second ∷ [])) p numbers
MakeItem before (item.Sent byte eoi) p numbers = is_listener p.device before ≡ true → MakeByte eoi p numbers

-- a printer of the timed trace stands for a device in an item: it has its number, and its delays
abbrev pub StandsFor : List Item → Item → Party → TimedPrinter → Type 0
StandsFor before x p q = (q.device ≡ p.device) × MakeItem before x p q.numbers

-- so do all printers in all items
abbrev pub StandFor : List Party → TimedBus → List Item → Type 0
StandFor parties w [] = Unit {0}
StandFor parties w (x ∷ xs) = Both (StandsFor w.before x) parties w.printers × StandFor parties (done w x).wires xs

-- the moves of a piece, if there is one, after these lines
abbrev pub piece_moves : Lines → Option Piece → List Move
piece_moves l None = []
piece_moves l (Some (Unanswered a release)) =
    released (call_edge (between l) a) ∷ (released (edge_at release true true true) ∷ [])
piece_moves l (Some (Attention a answer look first second end)) =
    released (call_edge (between l) a)
    ∷ (answer_moves answer look
    ++ (sent_moves false look first ++ (second_moves second ++ map released (ending_edges end))))
piece_moves l (Some (DataByte look sent)) = sent_moves true look sent
piece_moves l (Some (Dropped look)) = released (edge_at look true true true) ∷ []

-- the moves of an item: DATA's release that is due, and its piece
abbrev pub item_moves : TimedBus → Item → List Move
item_moves w x = map released (due_edges w.lines) ++ piece_moves w.lines (done w x).piece

-- the moves of items
abbrev pub timed_moves : TimedBus → List Item → List Move
timed_moves w [] = []
timed_moves w (x ∷ xs) = item_moves w x ++ timed_moves (done w x).wires xs

-- no later than DATA's release, if it is due
abbrev pub IsInTime : Lines → ℕ → Type 0
IsInTime Free now = Unit {0}
IsInTime Pulled now = Unit {0}
IsInTime (Due due) now = now ≤ due
