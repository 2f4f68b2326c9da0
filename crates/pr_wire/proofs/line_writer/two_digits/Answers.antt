use Rattle.std.proofs.Common.{refl}
use Rattle.pr_wire.proofs.Pairs.{pairs_at}
use Rattle.pr_wire.proofs.line_writer.two_digits.Goals as goal

pub returns : goal.returns
returns c = let p = pairs_at c.args.number c.requires in rw (p.0, p.1) refl
