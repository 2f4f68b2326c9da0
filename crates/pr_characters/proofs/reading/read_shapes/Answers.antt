use Rattle.std.proofs.Common.{◌∙◌}
use Rattle.pr_characters.proofs.Drawn.{answered, drawn}
use Rattle.pr_characters.proofs.reading.read_shapes.Goals as goal

pub returns-in_err-rows : goal.returns-in_err-rows
returns-in_err-rows c =
    answered c.args.text.now c.from_residual.result c.in_err-rows.field-0.0 c.in_err-rows.ensures.fault c.from_residual.ensures.1

pub returns : goal.returns
returns c =
    drawn c.args.text.now c.as_slice.result.now c.shapes_of.result c.in_ok-rows.ensures.whole
    (c.as_slice.ensures.value ∙ c.in_ok-rows.ensures.rows) c.shapes_of.ensures
