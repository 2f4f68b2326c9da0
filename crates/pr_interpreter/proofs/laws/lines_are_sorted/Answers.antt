use Rattle.pr_interpreter.proofs.LineLawLemmas.{lines_ascend, typed_lines_count}
use Rattle.pr_interpreter.proofs.laws.lines_are_sorted.Goals as goal

pub returns-clause-sorted : goal.returns-clause-sorted
returns-clause-sorted c = lines_ascend

pub returns-clause-last : goal.returns-clause-last
returns-clause-last c = typed_lines_count
