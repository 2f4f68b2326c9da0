use Rattle.pr_capture.specs.Gathering.{still_to_come}
use Rattle.pr_capture.proofs.laws.given_edges_come_first.Goals as goal

pub returns : goal.returns
returns c = λ start samples more given g h. (still_to_come g more, h more)
