use Rattle.pr_serial.proofs.ItemLemmas.{items_of-push, held_of-push, items_of-grow, items_of-append}
use Rattle.pr_serial.proofs.laws.elements_send_items.Goals as goal

pub returns-clause-one_more : goal.returns-clause-one_more
returns-clause-one_more c = items_of-push

pub returns-clause-held : goal.returns-clause-held
returns-clause-held c = held_of-push

pub returns-clause-grow : goal.returns-clause-grow
returns-clause-grow c = items_of-grow

pub returns-clause-two_parts : goal.returns-clause-two_parts
returns-clause-two_parts c = items_of-append
