use Rattle.pr_interpreter.proofs.ExpressionLawLemmas as proofs
use Rattle.pr_interpreter.proofs.laws.expressions_are_whole.Goals as goal

pub returns : goal.returns
returns c = proofs.expressions_are_whole
