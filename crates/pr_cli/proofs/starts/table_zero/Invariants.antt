use Rattle.std.proofs.Common.{◌≤◌, ◌+◌, ◌-◌, ◌^◌, length}
use Rattle.pr_capture.specs.CsvSteps.{line_number}
use Rattle.pr_input.specs.Watched.{wrapped}
use Rattle.pr_cli.specs.Reading.{ReadsMore}
use Rattle.pr_cli.proofs.FirstRows.{IsBeforeRows}
use Rattle.pr_cli.proofs.starts.table_zero.Given as goal

-- the lines taken have no sample, and the others decide
abbrev pub invariant-lines : goal.invariant-lines
invariant-lines g l = record {
  within : l.taken ≤ length l.first.items;
  lines : line_number l.reader ≤ l.taken + 1;
  before : IsBeforeRows l.fn.trace l.first.items l.taken l.reader;
  more : ReadsMore l.fn.first.items l.first.items (g.R.Read.remaining (wrapped l.fn.input)) (g.R.Read.remaining (wrapped l.input));
}

abbrev pub decreases-lines : goal.decreases-lines
decreases-lines g l = 2 ^ 64 - l.taken
