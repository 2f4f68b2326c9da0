use Rattle.std.proofs.Common.{◌≡◌, drop}
use Rattle.pr_capture.specs.Recording.{without_front}
use Rattle.pr_capture.proofs.signals.without_front.Given as goal

-- what was passed says nothing
abbrev pub invariant-loop-i : goal.invariant-loop-i
invariant-loop-i l = without_front (drop l.i l.bytes) ≡ without_front l.bytes
