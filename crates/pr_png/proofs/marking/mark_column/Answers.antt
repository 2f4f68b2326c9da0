use Rattle.std.proofs.Common.{sym}
use Rattle.pr_png.proofs.OnPicture.{bit-more, no_dots}
use Rattle.pr_png.proofs.marking.mark_column.Goals as goal

pub loop-bit-init : goal.loop-bit-init
loop-bit-init c = sym (no_dots c.args.extent c.args.dark.now)

pub loop-bit-preserved : goal.loop-bit-preserved
loop-bit-preserved c = bit-more c.args.extent c.args.x c.args.y c.args.value _ _ _ _ c.loop-bit.invariant c.mark_bit.ensures
