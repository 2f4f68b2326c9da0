use Rattle.std.proofs.Common.{◌≡◌, length, arith}
use Rattle.std.proofs.lemmas.Grind.{common_steps}
use Rattle.pr_listing.proofs.PieceLemmas.{all_read, line_read, refused_at}
use Rattle.pr_listing.proofs.typed.typed_text.Goals as goal

pub returns-in-Err-clause-err : goal.returns-in-Err-clause-err
returns-in-Err-clause-err c =
    refused_at _ _ _ _ _ _ _ _ c.in-Err.column _ _ c.loop-rest.invariant.read c.cut_line.ensures.lines c.without_return.ensures c.in-Err.ensures.line c.at.ensures

pub loop-rest-preserved : goal.loop-rest-preserved
loop-rest-preserved c = record {
  read =
      line_read _ _ _ _ _ _ _ _ _ _ c.loop-rest.invariant.read c.cut_line.ensures.lines c.without_return.ensures c.in_default.ensures.line c.in_default-push.ensures.items;
  count = omega (arith, c.loop-rest.invariant.count, c.cut_line.ensures.less);
}

pub returns-clause-ok : goal.returns-clause-ok
returns-clause-ok c =
    let empty : length c.loop-rest.rest.now ≡ 0 = grind (arith, common_steps) in
    all_read _ _ _ _ _ c.loop-rest.invariant.read empty
