use Rattle.pr_interpreter.proofs.LineLemmas.{too_large}
use Rattle.pr_interpreter.proofs.lines.line_number.Goals as goal

pub returns-then-number-gt-LAST_NUMBER-clause-value : goal.returns-then-number-gt-LAST_NUMBER-clause-value
returns-then-number-gt-LAST_NUMBER-clause-value c =
    too_large c.args.digits.now c.loop-b.b-index c.loop-b.number c.next_number-number.result _ c.loop-b-test.true
    c.loop-b.invariant.0 c.next_number-number.ensures c.if-number-gt-LAST_NUMBER.true
