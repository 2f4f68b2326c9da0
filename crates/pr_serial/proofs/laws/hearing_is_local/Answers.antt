use Rattle.pr_serial.proofs.HeardLemmas.{heard_by-push, heard_by-append, heard_by-uncalled, length-inputs_at, length-heard_by}
use Rattle.pr_serial.proofs.laws.hearing_is_local.Goals as goal

pub returns-clause-one_more : goal.returns-clause-one_more
returns-clause-one_more c = heard_by-push

pub returns-clause-two_parts : goal.returns-clause-two_parts
returns-clause-two_parts c = heard_by-append

pub returns-clause-uncalled : goal.returns-clause-uncalled
returns-clause-uncalled c = heard_by-uncalled

pub returns-clause-bounded : goal.returns-clause-bounded
returns-clause-bounded c = length-heard_by

pub returns-clause-few : goal.returns-clause-few
returns-clause-few c = length-inputs_at
