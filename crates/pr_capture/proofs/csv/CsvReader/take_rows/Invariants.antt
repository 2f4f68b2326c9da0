use Rattle.std.proofs.Common.{◌≡◌, ◌+◌, ◌≤◌, length}
use Rattle.pr_capture.specs.CsvSteps.{line_number}
use Rattle.pr_capture.proofs.CsvRepeats.{SkipsFront}
use Rattle.pr_capture.proofs.csv.CsvReader.take_rows.Given as goal

-- the rows of a front of the block were taken, and each takes at least a byte; all have the levels of the last row, which stays
abbrev pub invariant-loop-self : goal.invariant-loop-self
invariant-loop-self l = record {
  taken : SkipsFront l.block l.rest l.fn.levels l.last l.fn.self l.self;
  number : line_number l.self + length l.rest ≤ line_number l.fn.self + length l.block;
  within : length l.rest ≤ length l.block;
  stays : l.self.last ≡ l.fn.self.last;
}

abbrev pub decreases-loop-self : goal.decreases-loop-self
decreases-loop-self l = length l.rest
