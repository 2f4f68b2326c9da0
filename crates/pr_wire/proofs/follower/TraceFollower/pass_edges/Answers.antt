use Rattle.pr_wire.proofs.Following.{takes-frame}
use Rattle.pr_wire.proofs.follower.TraceFollower.pass_edges.Goals as goal

pub returns-clause-takes : goal.returns-clause-takes
returns-clause-takes c =
    takes-frame c.args.self.now _ c.pass_edges.new.self c.in-None-Some.last c.args.edges.now c.args.len c.in_ok-frame.frame
    c.in_ok-frame.ensures.some c.requires.enough c.in-None-Some.is-0 c.in-None-Some.is-1
    c.in_ok-frame.ensures.passes c.in_ok-frame.ensures.sooner c.accept.ensures
