use Rattle.std.proofs.Common.{◌≡◌, drop}
use Rattle.pr_capture.specs.Csv.{separator_of}
use Rattle.pr_capture.proofs.csv.separator_of.Given as goal

-- the bytes left decide
abbrev pub invariant-loop-b : goal.invariant-loop-b
invariant-loop-b l = separator_of (drop l.b-index l.line) ≡ separator_of l.line
