use Rattle.std.proofs.Common.{◌≡◌, ◌++◌, drop}
use Rattle.pr_exports.specs.EdgeDelays.{edge_delays, numbers_from}
use Rattle.pr_exports.proofs.delays.delays_of.Given as goal

-- the numbers so far, and those of the edges that are left
abbrev pub invariant-loop-edge : goal.invariant-loop-edge
invariant-loop-edge l = l.numbers.items ++ numbers_from l.place (drop l.edge-index l.edges) ≡ edge_delays l.edges
