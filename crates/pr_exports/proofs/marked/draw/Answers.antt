use Rattle.std.proofs.Common.{◌∙◌, sym}
use Rattle.pr_exports.proofs.MarkTexts.{no_text}
use Rattle.pr_exports.proofs.marked.draw.Goals as goal

pub returns-in-Err-clause-hands : goal.returns-in-Err-clause-hands
returns-in-Err-clause-hands c =
    no_text c.args.shapes.now c.args.format c.args.marks.now c.args.out.now c.ended.result c.in-Err.fault
    (sym c.first_up.ensures ∙ c.in_default.is) c.in-Err.ensures c.ended.ensures
