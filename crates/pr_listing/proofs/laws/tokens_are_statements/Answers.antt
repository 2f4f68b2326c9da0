use Rattle.pr_listing.proofs.TokenLines.{strings_keep_bytes, tokens_are_statements}
use Rattle.pr_listing.proofs.laws.tokens_are_statements.Goals as goal

pub returns-clause-statements : goal.returns-clause-statements
returns-clause-statements c = tokens_are_statements c.lexemes_are_found.ensures.all c.lexemes_are_found.ensures.no_others

pub returns-clause-strings : goal.returns-clause-strings
returns-clause-strings c = strings_keep_bytes
