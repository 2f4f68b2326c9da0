use Rattle.pr_serial.proofs.AnswerLemmas.{is_lacking-append, is_lacking-grow, is_lacking_none, is_lacking_one}
use Rattle.pr_serial.proofs.laws.answers_add_up.Goals as goal

pub returns-clause-later : goal.returns-clause-later
returns-clause-later c = is_lacking-append

pub returns-clause-two_parts : goal.returns-clause-two_parts
returns-clause-two_parts c = is_lacking-grow

pub returns-clause-none : goal.returns-clause-none
returns-clause-none c = is_lacking_none

pub returns-clause-one : goal.returns-clause-one
returns-clause-one c = is_lacking_one
