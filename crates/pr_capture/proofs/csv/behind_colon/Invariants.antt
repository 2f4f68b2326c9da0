use Rattle.std.proofs.Common.{◌≡◌, drop}
use Rattle.pr_capture.specs.Csv.{behind_colon}
use Rattle.pr_capture.proofs.csv.behind_colon.Given as goal

-- what was passed has no colon
abbrev pub invariant-loop-i : goal.invariant-loop-i
invariant-loop-i l = behind_colon (drop l.i l.text) ≡ behind_colon l.text
