use Rattle.std.proofs.Common.{sym, ◌∙◌}
use Rattle.pr_wire.proofs.Following.{followed-kept, accepted-fault, accepted-spells, fault-kept, stop-unstarted, stop-cut, stop-none}
use Rattle.pr_wire.proofs.follower.TraceFollower.finish.Goals as goal

pub returns-in-Some-clause-fault : goal.returns-in-Some-clause-fault
returns-in-Some-clause-fault c = λ edges frames h. sym (fault-kept edges frames c.args.self.now _ (sym c.fault.ensures.value ∙ c.in-Some.is) h)

pub returns-in_default-last-clause-fault : goal.returns-in_default-last-clause-fault
returns-in_default-last-clause-fault c = λ edges frames h.
    let f = c.args.self.now in
    sym (accepted-fault edges frames f (followed-kept edges frames f (sym c.fault.ensures.value ∙ c.in_default.is) h)
    ∙ stop-unstarted f.last f.state f.taken c.in_default-last.is)

pub returns-then-may_end-clause-fault : goal.returns-then-may_end-clause-fault
returns-then-may_end-clause-fault c = λ edges frames h.
    let f = c.args.self.now in
    sym (accepted-fault edges frames f (followed-kept edges frames f (sym c.fault.ensures.value ∙ c.in_default.is) h)
    ∙ stop-none f.last _ f.state f.taken c.in-Some-last.is (sym c.may_end.ensures ∙ c.if-may_end.true))

pub returns-then-may_end-clause-spells : goal.returns-then-may_end-clause-spells
returns-then-may_end-clause-spells c = λ edges frames h.
    let f = c.args.self.now in
    accepted-spells edges frames f _ c.in-Some-last.is (sym c.may_end.ensures ∙ c.if-may_end.true)
    (followed-kept edges frames f (sym c.fault.ensures.value ∙ c.in_default.is) h)

pub returns-else-may_end-clause-fault : goal.returns-else-may_end-clause-fault
returns-else-may_end-clause-fault c = λ edges frames h.
    let f = c.args.self.now in
    sym (accepted-fault edges frames f (followed-kept edges frames f (sym c.fault.ensures.value ∙ c.in_default.is) h)
    ∙ stop-cut f.last _ f.state f.taken c.in-Some-last.is (sym c.may_end.ensures ∙ c.if-may_end.false))
