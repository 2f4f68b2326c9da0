use Rattle.std.proofs.Common.{◌+◌, ◌≤◌, length}
use Rattle.pr_capture.specs.CsvSteps.{line_number}
use Rattle.pr_cli.proofs.FirstRows.{HasRead}
use Rattle.pr_cli.proofs.starts.samples_in.Given as goal

-- the samples of what was taken are there; each line takes at least a byte
abbrev pub invariant-loop-rest : goal.invariant-loop-rest
invariant-loop-rest l = record {
  read : HasRead l.fn.trace l.table l.rest l.samples.items l.reader;
  lines : line_number l.reader + length l.rest ≤ 1 + length l.table;
}

abbrev pub decreases-loop-rest : goal.decreases-loop-rest
decreases-loop-rest l = length l.rest
