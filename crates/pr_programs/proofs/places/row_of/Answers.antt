use Rattle.std.proofs.Common.{arith, refl}
use Rattle.pr_programs.proofs.RowLemmas.{row_passed, rows_counted}
use Rattle.pr_programs.proofs.places.row_of.Goals as goal

pub loop-b-preserved : goal.loop-b-preserved
loop-b-preserved c = record {
  rows = omega (
    arith,
    c.loop-b.invariant.rows,
    c.row_end-row.ensures.value,
    row_passed _ c.loop-b.b-index c.loop-b.after_return c.loop-b-test.true,
  );
  few = omega (arith, c.loop-b.invariant.few, c.row_end-row.ensures.most);
}

pub returns : goal.returns
returns c = rows_counted c.args.text.now _ c.args.place c.min.result c.loop-b.b-index c.loop-b.row c.loop-b.after_return
    c.min.ensures refl c.loop-b-test.false c.loop-b.invariant.rows
