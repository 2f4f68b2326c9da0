use Rattle.std.proofs.Common.{arith}
use Rattle.pr_pdf.proofs.Sheeted.{one_skipped}
use Rattle.pr_pdf.proofs.sheets.skip_before.Goals as goal

pub loop-count-preserved : goal.loop-count-preserved
loop-count-preserved c = record {
  within = omega (arith, c.loop-count-test.true);
  before = λ start. one_skipped c.args.top c.args.sheet c.loop-count.count c.args.rows.now c.index-rows-count.result (c.loop-count.invariant.before start) c.loop-count-test.true c.index-rows-count.is
      (omega (arith, c.last_sheet.ensures.sheet, c.if-last_sheet-sheet.true));
}
