use Rattle.std.specs.Option.{option_to_list}
use Rattle.pr_receiver.specs.Given.{input_at}
use Rattle.pr_receiver.proofs.Hearing.{each-append, each-push}
use Rattle.pr_receiver.proofs.laws.inputs_add_up.Goals as goal

pub returns-clause-two_parts : goal.returns-clause-two_parts
returns-clause-two_parts c = λ device before edges. each-append (λ p. option_to_list (input_at device p.0 p.1)) before edges

pub returns-clause-one_more : goal.returns-clause-one_more
returns-clause-one_more c = λ device before edge. each-push (λ p. option_to_list (input_at device p.0 p.1)) before edge
