use Rattle.pr_run.proofs.LiteralLemmas.{character_constant, digits_number, string_constant}
use Rattle.pr_run.proofs.run_laws.literals_are_constant.Goals as goal

pub returns-clause-digits : goal.returns-clause-digits
returns-clause-digits c = digits_number

pub returns-clause-strings : goal.returns-clause-strings
returns-clause-strings c = string_constant

pub returns-clause-characters : goal.returns-clause-characters
returns-clause-characters c = character_constant
