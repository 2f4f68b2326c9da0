use Rattle.std.proofs.Common.{◌≡◌, ◌++◌, length}
use Rattle.std.specs.Prelude.{map}
use Rattle.pr_base.specs.Lines.{lines_of}
use Rattle.pr_basic.specs.Grammar.{without_return}
use Rattle.pr_characters.specs.Rows.{first_bad, rows_from}
use Rattle.pr_characters.proofs.reading.read_rows.Given as goal

-- the numbers so far and those of the lines that are left are all of them, and no line so far is bad
abbrev pub invariant-loop-rest : goal.invariant-loop-rest
invariant-loop-rest l = record {
  rows : l.rows.items ++ rows_from (length l.rows.items) (map without_return (lines_of l.rest))
      ≡ rows_from 0 (map without_return (lines_of l.fn.text));
  bad : first_bad (length l.rows.items) (map without_return (lines_of l.rest))
      ≡ first_bad 0 (map without_return (lines_of l.fn.text));
}

abbrev pub decreases-loop-rest : goal.decreases-loop-rest
decreases-loop-rest l = length l.rest
