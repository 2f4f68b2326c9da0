use Rattle.std.proofs.Common.{◌≡◌, ◌+◌, ◌-◌, ◌*◌, drop}
use Rattle.pr_interpreter.specs.Evaluation.{through, worked}
use Rattle.pr_interpreter.specs.Working.{scope_of, seen}
use Rattle.pr_interpreter.proofs.evaluation.Work.+work.Given as goal

abbrev pub decreases-work : goal.decreases-work
decreases-work l = 4 * l.depth

abbrev pub decreases-enter : goal.decreases-enter
decreases-enter l = 4 * l.depth + 1

abbrev pub decreases-call_own : goal.decreases-call_own
decreases-call_own l = 4 * l.depth + 2

abbrev pub decreases-node : goal.decreases-node
decreases-node l = 4 * l.depth + 3

abbrev pub invariant-work-nodes : goal.invariant-work-nodes
invariant-work-nodes l =
    through (worked (l.depth - 1)) (scope_of l.parameters l.scope) (seen l.self) (drop l.it-index l.nodes)
    ≡ through (worked (l.depth - 1)) (scope_of l.parameters l.scope) (seen l.initial.self) l.nodes
