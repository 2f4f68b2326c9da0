use Rattle.std.proofs.Common.{◌≤◌, length, ◌+◌}
use Rattle.pr_capture.specs.VcdSteps.{line_number}
use Rattle.pr_tests_forms.proofs.dumps.samples.Given as goal

-- a step reads a line at most, and no more than there is
abbrev pub invariant-loop-step : goal.invariant-loop-step
invariant-loop-step l = (line_number l.reader ≤ l._step + 1) × (l.at ≤ length l.text)
