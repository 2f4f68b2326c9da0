use Rattle.std.proofs.Common.{◌≡◌, drop}
use Rattle.pr_run.specs.Uses.{place_from}
use Rattle.pr_run.proofs.uses.place_from.Given as goal

abbrev pub invariant-loop-node : goal.invariant-loop-node
invariant-loop-node l = place_from l.place (drop l.node-index l.nodes) ≡ place_from l.fn.first l.nodes
