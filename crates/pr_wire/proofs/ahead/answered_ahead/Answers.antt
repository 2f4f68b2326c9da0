use Rattle.std.proofs.Common.{arith}
use Rattle.std.proofs.lemmas.List.{take_rest}
use Rattle.pr_wire.proofs.WholeFrames.{passes-answered}
use Rattle.pr_wire.proofs.ahead.answered_ahead.Goals as goal

pub returns : goal.returns
returns c =
    let g = rw take_rest at c.in_ok-byte.ensures.brings in
    record { passes = passes-answered c.args.last c.args.start c.in_ok-byte.byte c.args.edges.now _ c.in-Data.is (omega (arith, c.requires.enough)) (c.is_begun.ensures c.if-not-is_begun.false) (c.is_answered.ensures c.if-not-is_answered.false) g }
