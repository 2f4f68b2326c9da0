use Rattle.pr_device.proofs.PairCalls.{pairs-called}
use Rattle.pr_device.proofs.laws.pairs_can_be_called.Goals as goal

pub returns : goal.returns
returns c =
    pairs-called c.pairs_make_traces.ensures c.devices_can_be_called.ensures c.traces_go_forward.ensures.timed
