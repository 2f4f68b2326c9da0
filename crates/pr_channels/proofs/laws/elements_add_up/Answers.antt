use Rattle.pr_channels.proofs.AddingLemmas.{adding_more, adding_none}
use Rattle.pr_channels.proofs.laws.elements_add_up.Goals as goal

pub returns-clause-two_parts : goal.returns-clause-two_parts
returns-clause-two_parts c = adding_more c.elements_send_items.ensures.grow c.answers_add_up.ensures.two_parts

pub returns-clause-none : goal.returns-clause-none
returns-clause-none c = adding_none c.answers_add_up.ensures.none
