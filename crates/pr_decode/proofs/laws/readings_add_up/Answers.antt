use Rattle.pr_decode.proofs.Taken.{all-settled, more-edges, one-cut}
use Rattle.pr_decode.proofs.laws.readings_add_up.Goals as goal

pub returns-clause-more : goal.returns-clause-more
returns-clause-more c = more-edges

pub returns-clause-cut : goal.returns-clause-cut
returns-clause-cut c = one-cut

pub returns-clause-given : goal.returns-clause-given
returns-clause-given c = all-settled
