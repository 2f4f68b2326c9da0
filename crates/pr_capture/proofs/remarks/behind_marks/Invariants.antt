use Rattle.std.proofs.Common.{◌≡◌, drop}
use Rattle.pr_capture.specs.TableTimes.{behind_marks}
use Rattle.pr_capture.proofs.remarks.behind_marks.Given as goal

-- what was passed says nothing
abbrev pub invariant-loop-i : goal.invariant-loop-i
invariant-loop-i l = behind_marks (drop l.i l.text) ≡ behind_marks l.text
