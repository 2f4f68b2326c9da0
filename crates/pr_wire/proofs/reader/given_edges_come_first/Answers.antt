use Rattle.pr_wire.proofs.ReadLaws.{given_first}
use Rattle.pr_wire.proofs.reader.given_edges_come_first.Goals as goal

pub returns : goal.returns
returns c = given_first
