use Rattle.std.proofs.Common.{arith}
use Rattle.std.proofs.lemmas.Grind.{common_steps}
use Rattle.pr_pdf.specs.Fonts.{font_entry}
use Rattle.pr_pdf.proofs.Numbers.{flat_more, flat_none}
use Rattle.pr_pdf.proofs.fonts.push_font_entries.Goals as goal

pub loop-font-init : goal.loop-font-init
loop-font-init c = grind (arith, common_steps, flat_none font_entry)

pub loop-font-preserved : goal.loop-font-preserved
loop-font-preserved c = grind (arith, common_steps, flat_more font_entry c.loop-font.font)
