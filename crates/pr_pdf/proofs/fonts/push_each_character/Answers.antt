use Rattle.std.proofs.Common.{arith}
use Rattle.std.proofs.lemmas.Grind.{common_steps}
use Rattle.pr_pdf.specs.Fonts.{character_pdf}
use Rattle.pr_pdf.proofs.Numbers.{flat_more, flat_none}
use Rattle.pr_pdf.proofs.fonts.push_each_character.Goals as goal

pub loop-code-init : goal.loop-code-init
loop-code-init c = grind (arith, common_steps, flat_none (character_pdf c.args.set))

pub loop-code-preserved : goal.loop-code-preserved
loop-code-preserved c = grind (arith, common_steps, flat_more (character_pdf c.args.set) c.loop-code.code)
