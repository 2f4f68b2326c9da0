use Rattle.std.proofs.Common.{◌≡◌, drop}
use Rattle.pr_run.specs.Assignments.{dimension}
use Rattle.pr_run.specs.Seen.{state_of}
use Rattle.pr_run.specs.Worked.{each}
use Rattle.pr_run.proofs.assignments.dim_statement.Given as goal

abbrev pub invariant-each : goal.invariant-each
invariant-each l =
    each (dimension l.program) (state_of l.run) (drop l.target-index l.targets)
    ≡ each (dimension l.program) (state_of l.fn.run) l.targets
