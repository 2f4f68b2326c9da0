-- Trusted: the bounds of the trace of a whole run.
use Rattle.std.specs.Prelude.{◌≤◌, ◌+◌, List, length}
use Rattle.pr_serial.specs.declared.Present.{Present}
use Rattle.pr_wire.specs.declared.Edge.{Edge}
use Rattle.pr_bus.specs.Sums.{time_bound, edge_bound, AreBy}
use Rattle.pr_basic.specs.declared.statement.Statement.{Statement}
use Rattle.pr_basic.specs.declared.session.StatusMode.{StatusMode}
use Rattle.pr_basic.specs.Runs.{items_sent}

-- the trace has no more edges than the start and the edge bound of the items sent, and none later than their time bound
pub record IsBounded (mode : StatusMode) (present : Present) (statements : List Statement)
    (trace : List Edge) : Type 0 where
  pub edges : length trace ≤ 1 + edge_bound (items_sent mode present statements)
  pub soon : AreBy (time_bound (items_sent mode present statements)) trace
