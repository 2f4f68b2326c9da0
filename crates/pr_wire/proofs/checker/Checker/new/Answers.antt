use Rattle.pr_wire.proofs.CheckLaws.{taken_none}
use Rattle.pr_wire.proofs.checker.Checker.new.Goals as goal

pub returns-clause-checked : goal.returns-clause-checked
returns-clause-checked c = taken_none c.new.result c.new.ensures.works c.new.ensures.accepted c.new.ensures.count
