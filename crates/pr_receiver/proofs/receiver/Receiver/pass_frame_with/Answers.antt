use Rattle.pr_receiver.proofs.Taken.{at-once}
use Rattle.pr_receiver.proofs.receiver.Receiver.pass_frame_with.Goals as goal

pub returns-clause-takes : goal.returns-clause-takes
returns-clause-takes c = rw (← c.self.view_is) (at-once c.allowed_traces.ensures.allowed c.args.edges.now c.pass_frame_with.result.count c.pass_frame_with.result.input c.self.inside.state c.pass_frame_with.new.self c.pass_frame_with.ensures.passes)

pub returns-clause-other_takes : goal.returns-clause-other_takes
returns-clause-other_takes c = rw (← c.other.view_is) (at-once c.allowed_traces.ensures.allowed c.args.edges.now c.pass_frame_with.result.count c.pass_frame_with.result.other c.other.inside.state c.pass_frame_with.new.other c.pass_frame_with.ensures.other_passes)
