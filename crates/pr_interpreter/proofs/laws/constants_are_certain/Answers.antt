use Rattle.pr_interpreter.proofs.ConstantLemmas.{constants_are_certain}
use Rattle.pr_interpreter.proofs.laws.constants_are_certain.Goals as goal

pub returns : goal.returns
returns c = constants_are_certain
