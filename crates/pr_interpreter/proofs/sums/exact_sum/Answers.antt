use Rattle.pr_interpreter.proofs.SumLemmas.{sum_wide}
use Rattle.pr_interpreter.proofs.sums.exact_sum.Goals as goal

pub returns-clause-wide : goal.returns-clause-wide
returns-clause-wide c =
    rw c.sum_span-span.ensures
    (sum_wide c.sign-3.result c.sign-4.result c.aligned-x.result c.aligned-y.result c.aligned-x.ensures.wide
    c.aligned-y.ensures.wide)
