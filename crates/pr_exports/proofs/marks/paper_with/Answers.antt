use Rattle.std.proofs.Common.{◌∙◌}
use Rattle.pr_exports.proofs.MarkRows.{marks_of_rows}
use Rattle.pr_exports.proofs.marks.paper_with.Goals as goal

pub returns : goal.returns
returns c =
    marks_of_rows c.args.marks.now (record { rows = c.from_vec.result; held = c.new.result }) c.requires.down
    (c.from_vec.ensures ∙ c.in_ok-rows_of.ensures) c.new.ensures
