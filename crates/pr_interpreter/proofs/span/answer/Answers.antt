use Rattle.pr_interpreter.proofs.AnswerLemmas.{exact_short, shortened_short}
use Rattle.pr_interpreter.proofs.span.answer.Goals as goal

pub returns-then-has_form-clause-short : goal.returns-then-has_form-clause-short
returns-then-has_form-clause-short c =
    rw (c.in_range.ensures, c.shorten.ensures) (exact_short c.args.digits c.args.span c.requires.wide c.requires.digits)

pub returns-else-has_form-clause-short : goal.returns-else-has_form-clause-short
returns-else-has_form-clause-short c =
    rw (c.around.ensures, c.shorten-else-has_form.ensures)
    (shortened_short c.args.error c.args.span c.requires.error c.requires.wide c.requires.scale)
