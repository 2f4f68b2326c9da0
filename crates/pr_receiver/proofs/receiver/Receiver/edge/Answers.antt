use Rattle.std.proofs.Common.{◌≡◌, None, [], Ok, sym, subst, ap, ◌∙◌}
use Rattle.pr_receiver.specs.Given.{frames_ended, input_at}
use Rattle.pr_receiver.specs.Taken.{HasReceived, refusal_of}
use Rattle.pr_receiver.proofs.Taken.{gives-input, takes-edge, taken-followed}
use Rattle.pr_receiver.proofs.receiver.Receiver.edge.Goals as goal

pub returns-in-Ok-clause-allowed : goal.returns-in-Ok-clause-allowed
returns-in-Ok-clause-allowed c = λ edges h n a.
    let v = c.self.view_is in
    ap (λ i. Ok i) (c.hear.ensures.input
    ∙ gives-input edges c.self.inside.state c.take.new.self c.args.edge c.in-Ok.frame c.in-Ok.ensures.accepted (subst (λ s. HasReceived edges s) (sym v) h))
    ∙ ap (λ s. Ok (input_at s.listener.device edges c.args.edge)) v

pub returns-in-Ok-clause-taken : goal.returns-in-Ok-clause-taken
returns-in-Ok-clause-taken c = λ edges h.
    rw c.hear.ensures.kept
    (takes-edge edges c.self.inside.state c.take.new.self c.args.edge c.in-Ok.frame c.in-Ok.ensures.accepted (subst (λ s. HasReceived edges s) (sym c.self.view_is) h))

pub returns-in-Err-clause-fault : goal.returns-in-Err-clause-fault
returns-in-Err-clause-fault c = λ edges h n.
    let v = sym c.self.view_is in
    c.in-Err.ensures.fault edges [] (frames_ended edges)
    (taken-followed edges c.self.inside.state (subst (λ s. refusal_of s ≡ None) v n) (subst (λ s. HasReceived edges s) v h))
