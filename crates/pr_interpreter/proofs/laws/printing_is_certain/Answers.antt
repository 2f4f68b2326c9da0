use Rattle.pr_interpreter.proofs.PrintingLawLemmas.{digits_are_certain, whole_numbers_read_back}
use Rattle.pr_interpreter.proofs.laws.printing_is_certain.Goals as goal

pub returns-clause-digits : goal.returns-clause-digits
returns-clause-digits c = digits_are_certain

pub returns-clause-whole : goal.returns-clause-whole
returns-clause-whole c = whole_numbers_read_back
