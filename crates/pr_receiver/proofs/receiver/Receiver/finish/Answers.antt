use Rattle.std.proofs.Common.{subst, sym, ◌≡◌, None}
use Rattle.pr_receiver.specs.Given.{frames_ended}
use Rattle.pr_receiver.specs.Taken.{HasReceived, refusal_of}
use Rattle.pr_receiver.proofs.Ended.{ok-lawful}
use Rattle.pr_receiver.proofs.Taken.{taken-followed}
use Rattle.pr_receiver.proofs.receiver.Receiver.finish.Goals as goal

pub returns-clause-fault : goal.returns-clause-fault
returns-clause-fault c = λ edges h n.
    let v = sym c.self.view_is in
    c.finish.ensures.fault edges (frames_ended edges) (taken-followed edges c.self.inside.state (subst (λ s. refusal_of s ≡ None) v n) (subst (λ s. HasReceived edges s) v h))

pub returns-clause-lawful : goal.returns-clause-lawful
returns-clause-lawful c = λ edges h n.
    ok-lawful c.lawful_traces.ensures.faultless edges c.finish.result (returns-clause-fault c edges h n)
