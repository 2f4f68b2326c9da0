use Rattle.std.proofs.Common.{refl}
use Rattle.std.proofs.lemmas.Nat.{and_mask}
use Rattle.pr_interpreter.proofs.span.ends_in_zeros.Goals as goal

pub returns : goal.returns
returns c = rw (c.power.ensures, and_mask c.args.n c.args.count) refl
