use Rattle.std.proofs.Common.{arith}
use Rattle.std.proofs.lemmas.Grind.{common_steps}
use Rattle.pr_pdf.specs.Pdf.{kid_pdf}
use Rattle.pr_pdf.proofs.Numbers.{flat_more, flat_none}
use Rattle.pr_pdf.proofs.drawing.push_kids.Goals as goal

pub loop-sheet-init : goal.loop-sheet-init
loop-sheet-init c = grind (arith, common_steps, flat_none (kid_pdf c.args.first))

pub loop-sheet-preserved : goal.loop-sheet-preserved
unfolding kid_pdf
loop-sheet-preserved c = grind (arith, common_steps, flat_more (kid_pdf c.args.first) c.loop-sheet.sheet)
