use Rattle.std.proofs.Common.{◌≡◌, [], drop}
use Rattle.pr_run.specs.Seen.{state_of}
use Rattle.pr_run.specs.Worked.{every, whole}
use Rattle.pr_run.proofs.outputs.numbers.Given as goal

abbrev pub invariant-each : goal.invariant-each
invariant-each l =
    every (whole 255 l.program) l.found.items (state_of l.run) (drop l.nodes-index l.values)
    ≡ every (whole 255 l.program) [] (state_of l.fn.run) l.values
