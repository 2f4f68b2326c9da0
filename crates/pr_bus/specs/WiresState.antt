-- Words of calls: what a contract sees of the bus on wires, and which part of the trace it shows. Who uses `Wires` by itself believes
-- them; no claim about a run rests on them.
use Rattle.std.specs.Prelude.{ℕ, Bool, Option, Some, None, List, [], ◌∷◌, take}
use Rattle.pr_serial.specs.declared.Present.{Present}
use Rattle.pr_serial.specs.declared.Item.{Item}
use Rattle.pr_serial.specs.Bus.{DelayNumbers}
use Rattle.pr_wire.specs.declared.Edge.{Edge}
use Rattle.pr_bus.specs.Timed.{TimedBus, wires, done, trace_from}

-- the printers that are present, the delay numbers, what was sent, the number of items at the last `forget`, and whether it has failed
pub record WiresState : Type 0 where
  pub present : Present
  pub delays : DelayNumbers
  pub items : List Item
  pub mark : Option ℕ
  pub failed : Bool

-- the wires after items
abbrev pub wires_after : TimedBus → List Item → TimedBus
wires_after w [] = w
wires_after w (x ∷ xs) = wires_after (done w x).wires xs

-- the wires after items, from the first on
abbrev pub state_from : Present → DelayNumbers → List Item → TimedBus
state_from present delays items = wires_after (wires present delays.computer delays.four delays.five) items

abbrev pub state_after : WiresState → TimedBus
state_after w = state_from w.present w.delays w.items

-- the timed trace of all that was sent, forgotten edges included
abbrev pub trace_of : WiresState → List Edge
trace_of w = trace_from w.present w.delays w.items

-- the part of the trace before a mark: that of the items before it; no part before the first mark
abbrev pub trace_until : Present → DelayNumbers → Option ℕ → List Item → List Edge
trace_until present delays None items = []
trace_until present delays (Some n) items = trace_from present delays (take n items)

-- the edges that were forgotten
abbrev pub forgotten : WiresState → List Edge
forgotten w = trace_until w.present w.delays w.mark w.items
