use Rattle.std.proofs.Common.{arith, append_assoc}
use Rattle.std.proofs.lemmas.Grind.{common_steps}
use Rattle.pr_page.proofs.Columns.{columns_from-push}
use Rattle.pr_page.proofs.sheet.push_columns.Goals as goal

pub loop-i-preserved : goal.loop-i-preserved
loop-i-preserved c =
    let e = columns_from-push c.args.x c.args.dots c.loop-i.i in
    record { added = grind (arith, common_steps, append_assoc, e); before = c.loop-i.invariant.before }
