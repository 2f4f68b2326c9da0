use Rattle.pr_interpreter.proofs.ProgramLemmas.{line_taken}
use Rattle.pr_interpreter.proofs.program.take_line.Goals as goal

pub returns-clause-ok : goal.returns-clause-ok
returns-clause-ok c = λ ls.
    line_taken c.args.text.now c.args.line _ _ c.in_ok-read.read ls c.in_ok-read.ensures.ok c.in_ok-put.ensures.ok
