use Rattle.pr_wire.proofs.WholeLists.{IsAnalysed}
use Rattle.pr_wire.proofs.analysis.analyse.Given as goal

-- the edges so far were given to the follower, and end the frames
abbrev pub invariant-loop-edge : goal.invariant-loop-edge
invariant-loop-edge l = IsAnalysed l.edges l.edge-index l.frames.items l.follower
