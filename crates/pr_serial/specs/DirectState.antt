-- Words of calls: what a contract sees of the bus without wires. Who uses `Direct` by itself believes them; no claim about a run rests on them.
use Rattle.std.specs.Prelude.{ℕ, Bool, Option, List, []}
use Rattle.pr_serial.specs.declared.Present.{Present}
use Rattle.pr_serial.specs.declared.Item.{Item}
use Rattle.pr_serial.specs.Bus.{DelayNumbers}

-- the printers that are present, what was sent, the number of items at the last `forget`, and whether it has failed
pub record DirectState : Type 0 where
  pub present : Present
  pub items : List Item
  pub mark : Option ℕ
  pub failed : Bool

-- the delay numbers of a bus without wires
abbrev pub no_delays : DelayNumbers
no_delays = record { computer = []; four = []; five = [] }
