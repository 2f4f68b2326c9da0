use Rattle.std.proofs.Common.{◌≡◌, ◌+◌, drop}
use Rattle.std.specs.List.{prefix_len}
use Rattle.pr_capture.specs.Csv.{is_inner}
use Rattle.pr_capture.proofs.csv.line_len.Given as goal

-- all so far count
abbrev pub invariant-loop-i : goal.invariant-loop-i
invariant-loop-i l = prefix_len is_inner l.text ≡ l.i + prefix_len is_inner (drop l.i l.text)
