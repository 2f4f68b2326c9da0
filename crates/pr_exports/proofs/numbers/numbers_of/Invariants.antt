use Rattle.std.proofs.Common.{◌≡◌, ◌++◌, drop}
use Rattle.pr_exports.specs.Numbers.{edge_numbers}
use Rattle.pr_exports.proofs.numbers.numbers_of.Given as goal

-- the numbers so far, and those of the edges that are left
abbrev pub invariant-loop-edge : goal.invariant-loop-edge
invariant-loop-edge l = l.numbers.items ++ edge_numbers (drop l.edge-index l.edges) ≡ edge_numbers l.edges
