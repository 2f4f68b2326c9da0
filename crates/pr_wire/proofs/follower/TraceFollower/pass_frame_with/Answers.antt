use Rattle.std.proofs.Common.{Option, Some, ap, ◌∙◌}
use Rattle.pr_wire.specs.declared.Edge.{Edge}
use Rattle.pr_wire.proofs.Following.{takes-frame}
use Rattle.pr_wire.proofs.follower.TraceFollower.pass_frame_with.Goals as goal

pub returns-clause-takes : goal.returns-clause-takes
returns-clause-takes c =
    takes-frame c.args.self.now _ c.pass_frame_with.new.self c.in-None-Some.last c.args.edges.now c.in_ok-whole.whole.len c.in_ok-whole.whole.frame
    c.in_ok-whole.ensures.some c.in_ok-whole.ensures.enough c.in-None-Some.is-0 c.in-None-Some.is-1
    c.in_ok-whole.ensures.passes c.in_ok-whole.ensures.sooner c.accept.ensures

pub returns-clause-other_takes : goal.returns-clause-other_takes
returns-clause-other_takes c =
    takes-frame c.args.other.now _ c.pass_frame_with.new.other c.in-None-Some.last c.args.edges.now c.in_ok-whole.whole.len c.in_ok-whole.whole.frame
    c.in_ok-whole.ensures.some c.in_ok-whole.ensures.enough c.in-None-Some-2.is-0
    (c.in-None-Some-2.is-1 ∙ ap {B = Option Edge} (λ e. Some e) (c.differ.ensures c.if-differ.false))
    c.in_ok-whole.ensures.other_passes c.in_ok-whole.ensures.other_sooner c.accept-2.ensures
