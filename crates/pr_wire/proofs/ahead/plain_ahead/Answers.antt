use Rattle.std.proofs.Common.{arith}
use Rattle.std.proofs.lemmas.List.{take_rest}
use Rattle.pr_wire.proofs.WholeFrames.{passes-plain}
use Rattle.pr_wire.proofs.ahead.plain_ahead.Goals as goal

pub returns : goal.returns
returns c =
    let g = rw take_rest at c.in_ok-byte.ensures.brings in
    record { passes = passes-plain c.args.last c.args.start c.in_ok-byte.byte c.args.edges.now _ (omega (arith, c.requires.enough)) (c.is_begun.ensures c.if-not-is_begun.false) (c.is_pulled.ensures c.if-not-is_pulled.false) g }
