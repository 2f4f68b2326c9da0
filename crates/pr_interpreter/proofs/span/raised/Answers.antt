use Rattle.std.proofs.Common.{arith}
use Rattle.pr_interpreter.proofs.BitLemmas.{raise_fits}
use Rattle.pr_interpreter.proofs.span.raised.Goals as goal

pub overflow_mul-result : goal.overflow_mul-result
overflow_mul-result c =
    let fits = raise_fits c.args.end c.args.count c.requires.short c.requires.count in
    record { fits = rw c.power.ensures (omega (arith, fits)) }
