-- Laws: what follows from the definitions. The functions of src/laws.rt prove them, and callers take them from there.
use Rattle.std.specs.Prelude.{◌≡◌, ℕ, List, ◌++◌}
use Rattle.pr_wire.specs.declared.Edge.{Edge}
use Rattle.pr_serial.specs.declared.Present.{Present}
use Rattle.pr_serial.specs.Bus.{DelayNumbers}
use Rattle.pr_serial.specs.Items.{items_of}
use Rattle.pr_basic.specs.declared.statement.Statement.{Statement}
use Rattle.pr_basic.specs.declared.session.StatusMode.{StatusMode}
use Rattle.pr_basic.specs.Runs.{run_of, items_sent}
use Rattle.pr_bus.specs.Timed.{trace_from}
use Rattle.pr_system.specs.declared.outcome.Outcome.{Outcome}
use Rattle.pr_system.specs.Headline.{IsOutcome}
use Rattle.pr_system.specs.RunningState.{RunningState, begun, stepped_by, trace_before, trace_so_far}
use Rattle.pr_system.specs.StepByStep.{stepped_through, IsWhole}
use Rattle.pr_system.specs.Without.{without, AreAddressed, GoesOn, IsSpared, KeepsPapers, IsGiven}

-- the steps of a list of statements make the whole run of it
abbrev pub StepsMakeTheRun : Type 0
StepsMakeTheRun = (mode : StatusMode) (present : Present) (delays : DelayNumbers) (statements : List Statement) →
    IsWhole (stepped_through (begun mode present delays) statements) (run_of mode present statements)

-- before the edges of a step is the trace that there was
abbrev pub StepsAddToTheTrace : Type 0
StepsAddToTheTrace = (run : RunningState) (statement : Statement) → run.items ≡ items_of run.elements →
    trace_before (stepped_by run statement) ≡ trace_so_far run

-- steps only add edges to the trace
abbrev pub StepsOnlyAddEdges : Type 0
StepsOnlyAddEdges = (run : RunningState) (statements : List Statement) → run.items ≡ items_of run.elements →
    (more : List Edge) × (trace_so_far (stepped_through run statements) ≡ trace_so_far run ++ more)

-- the steps of a list of statements make the trace of the whole run of it
abbrev pub StepsMakeTheTrace : Type 0
StepsMakeTheTrace = (mode : StatusMode) (present : Present) (delays : DelayNumbers) (statements : List Statement) →
    trace_so_far (stepped_through (begun mode present delays) statements)
    ≡ trace_from present delays (items_sent mode present statements)

-- in a list without CMD and PRINT that has no stop, leaving out one device spares the others
abbrev pub Isolation : Type 0
Isolation = (left_out : ℕ) (mode : StatusMode) (present : Present) (statements : List Statement) →
    AreAddressed statements → GoesOn mode present statements
    → IsSpared mode present left_out statements (without left_out statements)

-- so the page of each other printer is the same
abbrev pub IsolatedPages : Type 0
IsolatedPages =
    (left_out : ℕ) (mode : StatusMode) (present : Present) (statements : List Statement) (all rest : Outcome) →
    AreAddressed statements → GoesOn mode present statements →
    IsOutcome mode present statements all → IsOutcome mode present (without left_out statements) rest →
    KeepsPapers left_out all rest

-- even with other delays: what two runs give, each with delay numbers of its own
abbrev pub IsolatedWithOtherDelays : Type 0
IsolatedWithOtherDelays = (left_out : ℕ) (mode : StatusMode) (present : Present) (delays others : DelayNumbers)
    (statements : List Statement) (all rest : Outcome) →
    AreAddressed statements → GoesOn mode present statements →
    IsGiven mode present delays statements all → IsGiven mode present others (without left_out statements) rest →
    KeepsPapers left_out all rest
