-- Trusted: the trace of a whole run.
use Rattle.std.specs.Prelude.{◌≡◌, List}
use Rattle.pr_serial.specs.declared.Present.{Present}
use Rattle.pr_serial.specs.Bus.{DelayNumbers}
use Rattle.pr_wire.specs.declared.Edge.{Edge}
use Rattle.pr_wire.specs.Pieces.{IsLawful, Spells}
use Rattle.pr_bus.specs.Answers.{answered_frames}
use Rattle.pr_bus.specs.Timed.{trace_from}
use Rattle.pr_basic.specs.declared.statement.Statement.{Statement}
use Rattle.pr_basic.specs.declared.session.StatusMode.{StatusMode}
use Rattle.pr_basic.specs.Runs.{items_sent}

-- the trace is exactly the timed trace of the items sent, with these delay numbers; it is lawful,
-- and spells exactly the frames of the items that are answered
pub record IsTrueTrace (mode : StatusMode) (present : Present) (delays : DelayNumbers)
    (statements : List Statement) (trace : List Edge) : Type 0 where
  pub exact : trace ≡ trace_from present delays (items_sent mode present statements)
  pub lawful : IsLawful trace
  pub spells : Spells trace (answered_frames present (items_sent mode present statements))
