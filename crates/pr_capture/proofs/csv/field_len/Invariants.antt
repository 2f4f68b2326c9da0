use Rattle.std.proofs.Common.{◌≡◌, ◌+◌, drop, false}
use Rattle.pr_capture.specs.CsvSteps.{field_len}
use Rattle.pr_capture.proofs.csv.field_len.Given as goal

-- all so far count
abbrev pub invariant-loop-i : goal.invariant-loop-i
invariant-loop-i l = field_len l.separator false l.line ≡ l.i + field_len l.separator l.is_quoted (drop l.i l.line)
