use Rattle.std.proofs.Common.{sym, ◌∙◌}
use Rattle.pr_basic.proofs.LinesAt.{not_digits, nothing_first, number_above, number_first, number_none}
use Rattle.pr_basic.proofs.place.basic_number.Goals as goal

pub returns-in_default : goal.returns-in_default
returns-in_default c = number_none _ (nothing_first _ c.in_default.ensures.next)

pub returns-then-number-le-LINE_NUMBER_LIMIT : goal.returns-then-number-le-LINE_NUMBER_LIMIT
returns-then-number-le-LINE_NUMBER_LIMIT c =
    number_first _ _ _ _ (rw c.in-Digits.is at c.in-Some.ensures.next.0) c.value_of-number.ensures c.if-number-le-LINE_NUMBER_LIMIT.true

pub returns-else-number-le-LINE_NUMBER_LIMIT : goal.returns-else-number-le-LINE_NUMBER_LIMIT
returns-else-number-le-LINE_NUMBER_LIMIT c =
    number_above _ _ _ _ (rw c.in-Digits.is at c.in-Some.ensures.next.0) c.value_of-number.ensures c.if-number-le-LINE_NUMBER_LIMIT.false

pub returns-in_default-lexeme : goal.returns-in_default-lexeme
returns-in_default-lexeme c = number_none _ (λ ds rest e. not_digits _ _ c.in_default-lexeme.not-Digits ds rest (sym c.in-Some.ensures.next.0 ∙ e))
