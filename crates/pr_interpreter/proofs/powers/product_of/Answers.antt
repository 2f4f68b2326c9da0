use Rattle.std.proofs.Common.{◌<◌, sym, arith}
use Rattle.pr_interpreter.proofs.PowerLemmas.{factors_done, factors_on, factors_refused}
use Rattle.pr_interpreter.proofs.powers.product_of.Goals as goal

pub more-preserved : goal.more-preserved
more-preserved c =
    let some : 0 < c.more.left = omega arith in
    record {
      rest = factors_on c.more.left c.more.part c.args.factor c.in-Ok.next _ some (sym c.in-Ok.ensures.value)
          c.more.invariant.rest;
      part = c.in-Ok.ensures.part;
    }

pub returns-in-Err-clause-value : goal.returns-in-Err-clause-value
returns-in-Err-clause-value c =
    let some : 0 < c.more.left = omega arith in
    sym (factors_refused c.more.left c.more.part c.args.factor c.in-Err.fault _ some (sym c.in-Err.ensures.value)
    c.more.invariant.rest)

pub returns-clause-value : goal.returns-clause-value
returns-clause-value c =
    sym (factors_done c.more.left c.more.part c.args.factor _ (omega arith) c.more.invariant.rest)
