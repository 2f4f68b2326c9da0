use Rattle.std.proofs.Common.{◌≡◌, drop}
use Rattle.pr_run.specs.Jumps.{next_variables}
use Rattle.pr_run.specs.Seen.{state_of}
use Rattle.pr_run.proofs.jumps.next_variables.Given as goal

abbrev pub invariant-each : goal.invariant-each
invariant-each l =
    next_variables l.program (state_of l.run) (drop l.target-index l.targets)
    ≡ next_variables l.program (state_of l.fn.run) l.targets
