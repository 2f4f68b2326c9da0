use Rattle.pr_basic.proofs.StopLaw.{SendingLaws, stops_exactly, missing_by_status, effects_by_status}
use Rattle.pr_basic.proofs.laws.stops_are_exact.Goals as goal

-- the laws of pr_serial
laws_of : (c : goal.After-answers_add_up) → SendingLaws
laws_of c = record {
  one_more = c.elements_send_items.ensures.one_more;
  grow = c.elements_send_items.ensures.grow;
  later = c.answers_add_up.ensures.later;
  two_parts = c.answers_add_up.ensures.two_parts;
}

pub returns-clause-stop : goal.returns-clause-stop
returns-clause-stop c = stops_exactly

pub returns-clause-missing : goal.returns-clause-missing
returns-clause-missing c = missing_by_status (laws_of c)

pub returns-clause-effects : goal.returns-clause-effects
returns-clause-effects c = effects_by_status (laws_of c)
