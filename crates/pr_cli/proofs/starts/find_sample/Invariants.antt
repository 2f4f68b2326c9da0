use Rattle.std.proofs.Common.{◌+◌, ◌≤◌, length}
use Rattle.pr_capture.specs.CsvSteps.{line_number}
use Rattle.pr_cli.proofs.FirstRows.{HasPassed}
use Rattle.pr_cli.proofs.starts.find_sample.Given as goal

-- what was taken has no sample; each line takes at least a byte
abbrev pub invariant-loop-rest : goal.invariant-loop-rest
invariant-loop-rest l = record {
  passed : HasPassed l.bytes l.rest l.fn.reader l.reader;
  lines : line_number l.reader + length l.rest ≤ line_number l.fn.reader + length l.bytes;
}

abbrev pub decreases-loop-rest : goal.decreases-loop-rest
decreases-loop-rest l = length l.rest
