use Rattle.std.proofs.Common.{◌≡◌, drop}
use Rattle.pr_capture.specs.TableTimes.{has_slash}
use Rattle.pr_capture.proofs.remarks.has_slash.Given as goal

-- what was passed has no slash
abbrev pub invariant-loop-i : goal.invariant-loop-i
invariant-loop-i l = has_slash (drop l.i l.unit) ≡ has_slash l.unit
