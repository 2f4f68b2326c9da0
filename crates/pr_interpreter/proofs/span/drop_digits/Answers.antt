use Rattle.std.proofs.Common.{arith}
use Rattle.pr_interpreter.proofs.BitLemmas.{round_fits}
use Rattle.pr_interpreter.proofs.span.drop_digits.Goals as goal

pub overflow_add-result : goal.overflow_add-result
overflow_add-result c =
    let fits = round_fits c.args.span.high c.args.count c.requires.wide.high c.requires.count in
    record { fits = omega (arith, fits, c.power.ensures) }
