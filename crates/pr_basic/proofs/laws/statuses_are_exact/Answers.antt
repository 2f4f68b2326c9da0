use Rattle.pr_basic.proofs.KeptLaw.{status_exactly, found_next}
use Rattle.pr_basic.proofs.laws.statuses_are_exact.Goals as goal

pub returns-clause-status : goal.returns-clause-status
returns-clause-status c = status_exactly c.elements_send_items.ensures.grow c.answers_add_up.ensures.two_parts

pub returns-clause-next : goal.returns-clause-next
returns-clause-next c = found_next c.elements_send_items.ensures.grow c.answers_add_up.ensures.two_parts
