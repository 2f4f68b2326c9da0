use Rattle.std.proofs.Common.{◌≡◌, ◌+◌, ◌≤◌, ◌++◌, length}
use Rattle.pr_capture.specs.Pulses.{steady_after}
use Rattle.pr_capture.proofs.pulse_filter.PulseFilter.finish.Given as goal

-- what the edges held make comes after the edges added
abbrev pub invariant-loop-front : goal.invariant-loop-front
invariant-loop-front l = record {
  same : l.edges.items ++ steady_after l.self.limit l.self.told l.self.held ≡ l.fn.edges.items ++ steady_after l.fn.self.limit l.fn.self.told l.fn.self.held;
  few : length l.edges.items + length l.self.held ≤ length l.fn.edges.items + 16;
}

abbrev pub decreases-loop-front : goal.decreases-loop-front
decreases-loop-front l = length l.self.held
