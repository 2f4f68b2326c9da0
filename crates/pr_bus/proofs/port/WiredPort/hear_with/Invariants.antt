use Rattle.std.proofs.Common.{◌-◌, ◌≤◌, length}
use Rattle.pr_bus.specs.Together.{HearsMore}
use Rattle.pr_bus.proofs.port.WiredPort.hear_with.Given as goal

-- both have heard the edges so far
abbrev pub invariant-loop-at : goal.invariant-loop-at
invariant-loop-at l = record {
  within : l.at ≤ length l.edges;
  hears : HearsMore l.edges l.at l.fn.self l.self;
  other : HearsMore l.edges l.at l.fn.other l.other;
}

abbrev pub decreases-loop-at : goal.decreases-loop-at
decreases-loop-at l = length l.edges - l.at
