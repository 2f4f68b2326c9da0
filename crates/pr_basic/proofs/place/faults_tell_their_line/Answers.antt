use Rattle.pr_basic.proofs.LinesAt.{one_line, told}
use Rattle.pr_basic.proofs.place.faults_tell_their_line.Goals as goal

pub returns-clause-one_line : goal.returns-clause-one_line
returns-clause-one_line c = one_line

pub returns-clause-told : goal.returns-clause-told
returns-clause-told c = told
