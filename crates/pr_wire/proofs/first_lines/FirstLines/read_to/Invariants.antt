use Rattle.std.proofs.Common.{◌≤◌, ◌-◌, length}
use Rattle.pr_wire.specs.FirstLines.{AreFirstLines}
use Rattle.pr_wire.proofs.first_lines.FirstLines.read_to.Given as goal

-- the lines so far
abbrev pub invariant-loop-self : goal.invariant-loop-self
invariant-loop-self l = record {
  lines : AreFirstLines l.text l.fn.self → AreFirstLines l.text l.self;
  few : l.self.count ≤ l.count;
  within : l.self.len ≤ length l.text;
  bytes : l.self.count ≤ l.self.len;
}

abbrev pub decreases-loop-self : goal.decreases-loop-self
decreases-loop-self l = l.count - l.self.count
