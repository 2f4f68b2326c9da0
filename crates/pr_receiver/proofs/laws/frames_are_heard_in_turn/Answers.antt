use Rattle.pr_receiver.proofs.Hearing.{heard_of-push, is_called-push}
use Rattle.pr_receiver.proofs.laws.frames_are_heard_in_turn.Goals as goal

pub returns-clause-heard : goal.returns-clause-heard
returns-clause-heard c = heard_of-push

pub returns-clause-called : goal.returns-clause-called
returns-clause-called c = is_called-push
