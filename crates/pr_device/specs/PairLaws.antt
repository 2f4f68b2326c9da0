-- Laws: the law of the pair. The function of src/laws.rt proves it, and callers take it from there.
use Rattle.std.specs.Prelude.{◌≡◌, ℕ, ◌≤◌, true, ◌||◌, List, [], ◌∷◌, map, reverse}
use Rattle.pr_serial.specs.declared.Present.{Present}
use Rattle.pr_serial.specs.declared.Item.{Item}
use Rattle.pr_serial.specs.Bus.{DelayNumbers}
use Rattle.pr_wire.specs.Levels.{start}
use Rattle.pr_bus.specs.Laws.{AreItems}
use Rattle.pr_bus.specs.Timed.{trace_from, wires}
use Rattle.pr_bus.specs.WiresState.{state_from}
use Rattle.pr_device.specs.declared.timing.Timing.{Timing}
use Rattle.pr_device.specs.Timing.{IsTiming}
use Rattle.pr_device.specs.Numbers.{devices_of, delays_for}
use Rattle.pr_device.specs.Course.{Party, Each, Move, AreMade, released}
use Rattle.pr_device.specs.Shown.{CanBeCalled, GoForward}
use Rattle.pr_device.specs.Paired.{StandFor, timed_moves, IsInTime}

-- the moves of items, from the start on
abbrev pub moves_of : Present → DelayNumbers → List Item → List Move
moves_of present delays items =
    released start ∷ timed_moves (wires present delays.computer delays.four delays.five) items

-- the edges of these moves are the timed trace of the items, and talker and devices make them, until an end
pub record TraceIsMade (present : Present) (delays : DelayNumbers) (parties : List Party) (items : List Item)
    (end : ℕ) : Type 0 where
  pub edges : map (λ (m : Move). m.edge) (moves_of present delays items) ≡ trace_from present delays items
  pub made : AreMade parties [] (moves_of present delays items) end

-- the timed trace of any items is made by the talker and devices, at least one, for which its printers stand
abbrev pub TimedTracesAreMade : Type 0
TimedTracesAreMade =
    (present : Present) (delays : DelayNumbers) (p : Party) (others : List Party) (items : List Item) (end : ℕ)
    → AreItems items → (present.four || present.five) ≡ true → Each (λ (q : Party). IsTiming q.timing) (p ∷ others)
    → Each (λ (q : Party). q.device ≤ 30) (p ∷ others)
    → StandFor (p ∷ others) (wires present delays.computer delays.four delays.five) items
    → IsInTime (state_from present delays items).lines end → TraceIsMade present delays (p ∷ others) items end

-- the law of the pair: the talker and devices 4 and 5, or the one of them that is present, with any delays within the
-- bounds, make the timed trace of any items
abbrev pub PairsMakeTraces : Type 0
PairsMakeTraces =
    (present : Present) (computer : List ℕ) (four five : Timing) (items : List Item) (end : ℕ) → AreItems items
    → (present.four || present.five) ≡ true → IsTiming four → IsTiming five
    → (let delays : DelayNumbers = delays_for computer four five items in
    IsInTime (state_from present delays items).lines end
    → TraceIsMade present delays (devices_of present four five) items end)

-- the moments of the timed trace of any items do not go back
abbrev pub TimedTracesGoForward : Type 0
TimedTracesGoForward =
    (present : Present) (delays : DelayNumbers) (items : List Item) → AreItems items
    → GoForward 0 (trace_from present delays items)

-- so each device of the pair can be called at its wakes between the edges of the timed trace
abbrev pub PairsCanBeCalled : Type 0
PairsCanBeCalled =
    (present : Present) (computer : List ℕ) (four five : Timing) (items : List Item) → AreItems items
    → (present.four || present.five) ≡ true → IsTiming four → IsTiming five
    → Each (λ (p : Party). CanBeCalled p (reverse (trace_from present (delays_for computer four five items) items)))
    (devices_of present four five)
