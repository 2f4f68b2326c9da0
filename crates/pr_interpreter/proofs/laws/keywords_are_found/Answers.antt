use Rattle.pr_interpreter.proofs.KeywordLemmas as proofs
use Rattle.pr_interpreter.proofs.laws.keywords_are_found.Goals as goal

pub returns : goal.returns
returns c = proofs.keywords_are_found
