use Rattle.pr_basic.proofs.KeptLaw.{sent_after}
use Rattle.pr_basic.proofs.laws.statements_send_their_items.Goals as goal

pub returns : goal.returns
returns c = sent_after c.elements_send_items.ensures.grow
