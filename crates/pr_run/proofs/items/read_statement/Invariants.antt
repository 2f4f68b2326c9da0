use Rattle.std.proofs.Common.{◌≡◌, drop}
use Rattle.pr_run.specs.Items.{read_target}
use Rattle.pr_run.specs.Seen.{state_of}
use Rattle.pr_run.specs.Worked.{each}
use Rattle.pr_run.proofs.items.read_statement.Given as goal

abbrev pub invariant-each : goal.invariant-each
invariant-each l =
    each (read_target l.program) (state_of l.run) (drop l.target-index l.targets)
    ≡ each (read_target l.program) (state_of l.fn.run) l.targets
