use Rattle.std.proofs.Common.{length, arith}
use Rattle.pr_basic.proofs.LexemesAgree.{lexemes_found, lexemes_spelled}
use Rattle.pr_basic.proofs.laws.lexemes_are_found.Goals as goal

pub returns-clause-all : goal.returns-clause-all
returns-clause-all c = λ line. lexemes_spelled (length line) line (omega arith)

pub returns-clause-no_others : goal.returns-clause-no_others
returns-clause-no_others c = λ line lexemes h. lexemes_found line lexemes h
