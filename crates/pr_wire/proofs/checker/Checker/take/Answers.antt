use Rattle.pr_wire.proofs.CheckLaws.{taken_byte}
use Rattle.pr_wire.proofs.checker.Checker.take.Goals as goal

pub returns-else-byte-eq10-clause-checked : goal.returns-else-byte-eq10-clause-checked
returns-else-byte-eq10-clause-checked c = λ text frames h. taken_byte _ text frames _ _ _ _ c.args.byte c.if-byte-eq10.false c.after-self.ensures h
