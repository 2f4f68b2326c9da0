use Rattle.pr_serial.proofs.AnswerLemmas.{is_listener-push}
use Rattle.pr_serial.proofs.laws.items_make_listeners.Goals as goal

pub returns : goal.returns
returns c = is_listener-push
