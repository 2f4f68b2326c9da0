use Rattle.pr_interpreter.proofs.SizeLemmas.{expression_some}
use Rattle.pr_interpreter.proofs.reading.value.Goals as goal

pub returns-clause-some : goal.returns-clause-some
returns-clause-some c = expression_some c.args.end c.args.lexemes.now _ _ c.in_ok-read.ensures.ok
