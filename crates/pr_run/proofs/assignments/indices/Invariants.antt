use Rattle.std.proofs.Common.{◌≡◌, [], drop}
use Rattle.pr_run.specs.Assignments.{index}
use Rattle.pr_run.specs.Seen.{state_of}
use Rattle.pr_run.specs.Worked.{every}
use Rattle.pr_run.proofs.assignments.indices.Given as goal

abbrev pub invariant-each : goal.invariant-each
invariant-each l =
    every (index l.program l.at) l.found.items (state_of l.run) (drop l.nodes-index l.expressions)
    ≡ every (index l.program l.at) [] (state_of l.fn.run) l.expressions
