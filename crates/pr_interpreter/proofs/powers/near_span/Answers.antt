use Rattle.std.proofs.Common.{◌≤◌, arith}
use Rattle.pr_interpreter.specs.Powers.{power_error}
use Rattle.pr_interpreter.proofs.AnswerLemmas.{shortened_short}
use Rattle.pr_interpreter.proofs.powers.near_span.Goals as goal

pub returns-clause-short : goal.returns-clause-short
returns-clause-short c =
    let small : power_error ≤ 32 = omega arith in
    rw (c.around.ensures, c.shorten.ensures) (shortened_short power_error c.args.span small c.requires.wide c.requires.scale)
