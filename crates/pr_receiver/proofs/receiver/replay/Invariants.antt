use Rattle.pr_receiver.proofs.WholeTrace.{HasGiven}
use Rattle.pr_receiver.proofs.receiver.replay.Given as goal

-- the edges so far have been taken, and their inputs kept
abbrev pub invariant-loop-edge : goal.invariant-loop-edge
invariant-loop-edge l = HasGiven l.device l.edges l.edge-index l.receiver l.inputs.items
