use Rattle.pr_run.proofs.OpenedLemmas.{left_is}
use Rattle.pr_run.proofs.opened.stack_left.Goals as goal

pub returns : goal.returns
returns c =
    left_is c.args.opened.now c.loop-open.open-index c.loop-open.left c.loop-open-test.false c.loop-open.invariant.all
