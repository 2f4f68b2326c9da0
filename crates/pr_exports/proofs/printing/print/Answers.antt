use Rattle.std.proofs.Common.{◌∙◌, sym, arith}
use Rattle.pr_exports.proofs.InputTexts.{no_text, too_many}
use Rattle.pr_exports.proofs.printing.print.Goals as goal

pub returns-then-inputs-gt-INPUTS_LIMIT-clause-hands : goal.returns-then-inputs-gt-INPUTS_LIMIT-clause-hands
returns-then-inputs-gt-INPUTS_LIMIT-clause-hands c =
    too_many c.args.shapes.now c.args.format c.args.inputs.now c.args.out.now c.ended.result c.if-inputs-gt-INPUTS_LIMIT.true c.ended.ensures

pub returns-in-Err-clause-hands : goal.returns-in-Err-clause-hands
returns-in-Err-clause-hands c =
    no_text c.args.shapes.now c.args.format c.args.inputs.now c.args.out.now c.ended-in-Err.result c.in-Err.fault
    (omega (arith, c.if-inputs-gt-INPUTS_LIMIT.false)) (sym c.first_no_input.ensures ∙ c.in_default.is) c.in-Err.ensures c.ended-in-Err.ensures
