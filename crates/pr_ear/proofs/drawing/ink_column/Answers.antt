use Rattle.std.proofs.Common.{sym}
use Rattle.pr_ear.proofs.Inked.{bit-more, no_dots}
use Rattle.pr_ear.proofs.drawing.ink_column.Goals as goal

pub loop-bit-init : goal.loop-bit-init
loop-bit-init c = sym (no_dots c.args.region.now c.args.out.now)

pub loop-bit-preserved : goal.loop-bit-preserved
loop-bit-preserved c = bit-more c.args.region.now c.args.x c.args.y c.args.value _ _ _ _ c.loop-bit.invariant c.ink_bit.ensures
