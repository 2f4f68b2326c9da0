-- Linking words, for proofs: what the bus on wires keeps. No reader needs to believe them.
use Rattle.std.specs.Prelude.{◌≡◌, ℕ, ◌++◌, false, Option, List, drop}
use Rattle.pr_serial.specs.declared.Item.{Item}
use Rattle.pr_serial.specs.Bus.{DelayNumbers}
use Rattle.pr_serial.specs.declared.Present.{Present}
use Rattle.pr_serial.specs.HeardSinceMark.{IsReached}
use Rattle.pr_bus.specs.declared.log.Log.{Log}
use Rattle.pr_bus.specs.declared.talker.Talker.{Talker}
use Rattle.pr_bus.specs.PortState.{Hears}
use Rattle.pr_bus.specs.declared.wires.DelayOffsets.{DelayOffsets}
use Rattle.pr_bus.specs.declared.wires.Wires.TheInside.{Inside}
use Rattle.pr_bus.specs.WiresState.{WiresState, state_from, trace_until}
use Rattle.pr_bus.specs.Timed.{trace_from}
use Rattle.pr_bus.specs.Talk.{state_of, IsTuned}
use Rattle.pr_bus.specs.Laws.{AreItems}

-- the delay numbers that were not taken before the first item
abbrev pub numbers_of : DelayOffsets → Talker → DelayNumbers
numbers_of b t = record {
  computer = drop b.computer t.computer.numbers;
  four = drop b.four t.four.choices.numbers;
  five = drop b.five t.five.choices.numbers;
}

abbrev pub state_shown : Inside → WiresState
state_shown w = record {
  present = w.present;
  delays = numbers_of w.offsets w.talker;
  items = w.log.items.items;
  mark = w.mark;
  failed = w.failed;
}

-- the talker is where these items leave it
pub record IsAt (w : WiresState) (t : Talker) : Type 0 where
  pub tuned : IsTuned w.items t
  pub state : state_of w.items t ≡ state_from w.present w.delays w.items

-- both printers have heard the timed trace of these items, and keep what they were given since the mark
pub record AreHearing (present : Present) (delays : DelayNumbers) (mark : Option ℕ) (items : List Item)
    (log : Log) : Type 0 where
  pub four : Hears 4 present.four (trace_until present delays mark items) (trace_from present delays items) log.four
  pub five : Hears 5 present.five (trace_until present delays mark items) (trace_from present delays items) log.five

-- the trace and the time are those of what was sent, and the talker goes on from there unless the bus has failed
pub record IsWired (w : Inside) : Type 0 where
  pub items : AreItems w.log.items.items
  pub within : IsReached w.mark w.log.items.items
  pub trace : trace_until w.present (numbers_of w.offsets w.talker) w.mark w.log.items.items ++ w.log.trace.items
      ≡ trace_from w.present (numbers_of w.offsets w.talker) w.log.items.items
  pub time : w.time ≡ (state_from w.present (numbers_of w.offsets w.talker) w.log.items.items).now
  pub four : w.talker.four.present ≡ w.present.four
  pub five : w.talker.five.present ≡ w.present.five
  pub ports : AreHearing w.present (numbers_of w.offsets w.talker) w.mark w.log.items.items w.log
  pub at : w.failed ≡ false → IsAt (state_shown w) w.talker
