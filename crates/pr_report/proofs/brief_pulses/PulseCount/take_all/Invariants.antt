use Rattle.std.proofs.Common.{List, ◌++◌, take}
use Rattle.pr_wire.specs.declared.Edge.{Edge}
use Rattle.pr_report.specs.Taking.{HasPulses}
use Rattle.pr_report.proofs.brief_pulses.PulseCount.take_all.Given as goal

-- the edges so far were looked at
abbrev pub invariant-loop-edge : goal.invariant-loop-edge
invariant-loop-edge l = (before : List Edge) → HasPulses before l.fn.self → HasPulses (before ++ take l.edge-index l.edges) l.self
