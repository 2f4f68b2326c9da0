use Rattle.std.proofs.Common.{arith}
use Rattle.std.proofs.lemmas.Grind.{common_steps}
use Rattle.pr_pdf.specs.Fonts.{width_pdf}
use Rattle.pr_pdf.proofs.Numbers.{flat_more, flat_none}
use Rattle.pr_pdf.proofs.fonts.push_each_width.Goals as goal

pub loop-code-init : goal.loop-code-init
loop-code-init c = grind (arith, common_steps, flat_none (width_pdf c.args.columns))

pub loop-code-preserved : goal.loop-code-preserved
loop-code-preserved c = grind (arith, common_steps, flat_more (width_pdf c.args.columns) c.loop-code.code)
