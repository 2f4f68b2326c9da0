use Rattle.std.proofs.Common.{◌-◌, ◌<◌, List, arith, sym, ◌∙◌}
use Rattle.std.proofs.lemmas.List.{at_drop_all}
use Rattle.pr_interpreter.specs.Evaluation.{through, worked}
use Rattle.pr_interpreter.specs.Working.{scope_of, seen}
use Rattle.pr_interpreter.specs.declared.expressions.Placed.{Placed}
use Rattle.pr_interpreter.proofs.EvaluationLemmas.{worked_more}
use Rattle.pr_interpreter.proofs.evaluation.Work.+work.Goals as goal

pub work-returns : goal.work-returns
work-returns t c =
    let scope = scope_of c.args.parameters.now c.args.scope.now in
    let some : 0 < c.args.depth = omega arith in
    sym (at_drop_all (λ (nodes : List Placed). through (worked (c.args.depth - 1)) scope (seen c.nodes.self) nodes)
    c.args.nodes.now c.nodes.it-index c.nodes-test.false)
    ∙ (c.nodes.invariant
    ∙ worked_more c.args.depth c.args.place scope (seen c.args.self.now) c.args.nodes.now some)
