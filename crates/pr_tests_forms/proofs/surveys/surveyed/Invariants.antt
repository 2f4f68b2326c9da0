use Rattle.std.proofs.Common.{◌≡◌}
use Rattle.pr_report.specs.Taking.{number_taken}
use Rattle.pr_tests_forms.proofs.surveys.surveyed.Given as goal

-- this many were taken as the loop has passed
abbrev pub invariant-loop-reading : goal.invariant-loop-reading
invariant-loop-reading l = number_taken l.survey ≡ l.reading-index
