use Rattle.pr_report.proofs.PulsesCounted.{pulses-all, pulses-next, pulses-none}
use Rattle.pr_report.proofs.brief_pulses.PulseCount.take_all.Goals as goal

pub loop-edge-init : goal.loop-edge-init
loop-edge-init c = pulses-none c.args.self.now

pub loop-edge-preserved : goal.loop-edge-preserved
loop-edge-preserved c =
    pulses-next c.args.edges.now c.loop-edge.edge-index _ c.args.self.now c.loop-edge.self c.take.new.self c.loop-edge-test.true c.loop-edge.invariant c.take.ensures

pub returns : goal.returns
returns c = pulses-all c.args.edges.now c.loop-edge.edge-index c.args.self.now c.loop-edge.self c.loop-edge-test.false c.loop-edge.invariant
