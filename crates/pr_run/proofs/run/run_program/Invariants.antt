use Rattle.std.proofs.Common.{◌≡◌}
use Rattle.pr_run.specs.Runs.{run, run_from}
use Rattle.pr_run.specs.Seen.{joined, state_of}
use Rattle.pr_run.proofs.run.run_program.Given as goal

abbrev pub invariant-steps : goal.invariant-steps
invariant-steps l =
    joined l.performed.items (run_from l.program l.left (state_of l.run)) ≡ run l.limit l.program

abbrev pub decreases-steps : goal.decreases-steps
decreases-steps l = l.left
