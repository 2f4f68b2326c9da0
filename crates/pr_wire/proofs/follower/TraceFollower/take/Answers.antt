use Rattle.std.proofs.Common.{Some, ap, sym, ◌∙◌}
use Rattle.pr_wire.specs.Following.{refused_at}
use Rattle.pr_wire.proofs.Following.{after, step-refused, followed-accepted, followed-err, followed-ok, refused-before, fault-later, moves-accepted, step-ok, step-err}
use Rattle.pr_wire.proofs.follower.TraceFollower.take.Goals as goal

pub returns-in-Some-clause-followed : goal.returns-in-Some-clause-followed
returns-in-Some-clause-followed c = λ edges frames h.
    let k = ap (λ o. refused_at o c.args.self.now.taken) c.in-Some.is in
    followed-err edges frames c.args.self.now c.args.edge _ k (refused-before c.args.self.now c.args.edge _ k edges frames h)

pub returns-in-Some-clause-fault : goal.returns-in-Some-clause-fault
returns-in-Some-clause-fault c = λ edges more frames h.
    let k = ap (λ o. refused_at o c.args.self.now.taken) c.in-Some.is in
    fault-later edges more c.args.edge _ (refused-before c.args.self.now c.args.edge _ k edges frames h) ∙ ap (λ w. Some w) (sym c.at.ensures.value)

pub returns-in-Ok-clause-followed : goal.returns-in-Ok-clause-followed
returns-in-Ok-clause-followed c =
    let k = step-refused c.args.self.now c.step.new.self c.args.edge c.in-Ok.frame c.in_default.is c.in-Ok.ensures.moved in
    followed-ok c.args.self.now (after c.step.new.self c.args.edge) c.args.edge c.in-Ok.frame c.in_default.is k (step-ok c.args.self.now c.step.new.self c.args.edge c.in-Ok.frame c.in_default.is c.in-Ok.ensures.moved)

pub returns-in-Ok-clause-accepted : goal.returns-in-Ok-clause-accepted
returns-in-Ok-clause-accepted c =
    moves-accepted c.args.self.now (after c.step.new.self c.args.edge) c.args.edge c.in-Ok.frame (step-ok c.args.self.now c.step.new.self c.args.edge c.in-Ok.frame c.in_default.is c.in-Ok.ensures.moved)

pub returns-in-Err-clause-followed : goal.returns-in-Err-clause-followed
returns-in-Err-clause-followed c = λ edges frames h.
    step-err c.args.self.now c.step.new.self c.args.edge c.in-Err.refusal c.in-Err.ensures.moved edges frames (followed-accepted edges frames c.args.self.now c.in_default.is h)

pub returns-in-Err-clause-fault : goal.returns-in-Err-clause-fault
returns-in-Err-clause-fault c = λ edges more frames h.
    fault-later edges more c.args.edge _ (step-err c.args.self.now c.step.new.self c.args.edge c.in-Err.refusal c.in-Err.ensures.moved edges frames (followed-accepted edges frames c.args.self.now c.in_default.is h))
    ∙ ap (λ w. Some w) (sym c.at-in-Err.ensures.value)
