use Rattle.std.proofs.Common.{arith}
use Rattle.pr_interpreter.specs.Lines.{program_lines}
use Rattle.pr_interpreter.proofs.LineLemmas.{last_fault}
use Rattle.pr_interpreter.proofs.WithinLemmas.{last_within}
use Rattle.pr_interpreter.proofs.lines.lines_of.Goals as goal

pub returns-in-Err-clause-fault : goal.returns-in-Err-clause-fault
returns-in-Err-clause-fault c =
    last_fault c.args.text.now c.loop-place.start c.loop-place.place c.loop-place.lines.items c.in-Err.fault
    (program_lines c.args.text.now) (omega arith) c.in-Err.ensures.err c.loop-place.invariant.0

pub returns-in-Ok-clause-within : goal.returns-in-Ok-clause-within
returns-in-Ok-clause-within c =
    last_within c.args.text.now c.loop-place.start c.loop-place.place c.loop-place.lines.items
    c.enter_row.new.lines.items (omega arith) c.in-Ok.ensures.ok c.loop-place.invariant.0
